-- Which types of `channel_calls` that hold a pattern may cross threads.
use denote.RattleType.{RattleType}
use denote.Param.Send.{IsSend, IsSync, sendable}
use denote.Param.SendFields.{declared_send, declared_sync}
use Rattle.std.proofs.Crossing.{crosses}
use Rattle.channel_calls.proofs.line_waits.Waits.TheSendSync.{the_send as waits_send}
use Rattle.channel_calls.proofs.sleepers.Sleepers.TheSendSync.{the_send as sleepers_send, the_sync as sleepers_sync}
use Rattle.channel_crossing.proofs.XdsBook.{book_send}
use Rattle.channel_calls.specs.xds_book.declared.jobs.Job.{Ghosts}
use Rattle.channel_calls.specs.xds_book.contracts.channel_book.Book as Book
use Rattle.channel_calls.specs.contracts.locked_book.Locked as Locked
use Rattle.channel_calls.specs.contracts.locked_book.Locked.TheInside as LockedInside
use Rattle.channel_calls.specs.contracts.locked_channel.Channel as Channel
use Rattle.channel_calls.specs.contracts.locked_channel.Channel.TheInside as ChannelInside

pub locked_send : (J : RattleType) (g : Ghosts J.Denot) → IsSend J → IsSend (Locked.the_row J g)
locked_send J g s =
    let book : IsSend (Book.the_row J g) = book_send J g s in
    let inside : IsSend (LockedInside.the_row J g) = declared_send (LockedInside.the_type J g) (search (sendable, crosses, book, waits_send) depth 30 steps 3000000) in
    search (sendable, inside) depth 6 steps 300000

pub channel_send : (J : RattleType) (g : Ghosts J.Denot) → IsSend J → IsSend (Channel.the_row J g)
channel_send J g s =
    let locked : IsSend (Locked.the_row J g) = locked_send J g s in
    let inside : IsSend (ChannelInside.the_row J g) = declared_send (ChannelInside.the_type J g) (search (sendable, crosses, locked, sleepers_send) depth 30 steps 3000000) in
    search (sendable, inside) depth 6 steps 300000

pub channel_sync : (J : RattleType) (g : Ghosts J.Denot) → IsSend J → IsSync (Channel.the_row J g)
channel_sync J g s =
    let locked : IsSend (Locked.the_row J g) = locked_send J g s in
    let inside : IsSync (ChannelInside.the_row J g) = declared_sync (ChannelInside.the_type J g) (search (sendable, crosses, locked, sleepers_sync) depth 30 steps 3000000) in
    search (sendable, inside) depth 6 steps 300000
