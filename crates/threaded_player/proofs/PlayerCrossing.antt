-- What the threads of a session share may be shared.
use denote.RattleType.{RattleType}
use denote.Param.Send.{IsSend, IsSync, sendable}
use denote.Param.SendFields.{declared_sync}
use Rattle.std.proofs.Crossing.{crosses}
use Rattle.call_journal.proofs.plan.Plan.TheSendSync.{the_sync as plan_sync}
use Rattle.channel_crossing.specs.channel_calls.contracts.locked_channel.Channel as Channel
use Rattle.channel_crossing.proofs.ChannelCalls.{channel_sync}
use Rattle.threaded_player.proofs.seats.Seat.TheSendSync.{the_sync as seat_sync}
use Rattle.threaded_player.specs.contracts.players.Players as Players
use Rattle.threaded_player.specs.contracts.seats.Seat as Seat
use Rattle.closed_book.specs.xds_book.declared.jobs.Job.{Ghosts}

pub players_sync : (J : RattleType) (g : Ghosts J.Denot) → IsSend J → IsSync (Players.the_row J g)
players_sync J g s =
    let channel : IsSync (Channel.the_row J g) = channel_sync J g s in
    let seat : IsSync (Seat.the_row J g) = seat_sync J g in
    declared_sync (Players.the_type J g) (
      search (sendable, crosses) depth 20 steps 300000,
      (search (sendable, channel) depth 20 steps 300000, (search (sendable, crosses, plan_sync) depth 20 steps 300000, (search (sendable, crosses, seat) depth 20 steps 300000, tt))),
    )
