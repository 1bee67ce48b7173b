-- Which types of `xds_book` that hold a pattern may cross threads.
use denote.RattleType.{RattleType}
use denote.Param.Send.{IsSend, sendable}
use denote.Param.SendFields.{declared_send}
use Rattle.std.proofs.Crossing.{crosses}
use Rattle.channel_calls.proofs.book_calls.calls.Calls.TheSendSync.{the_send as calls_send}
use Rattle.channel_calls.proofs.book_picks.kept_turns.Turns.TheSendSync.{the_send as turns_send}
use Rattle.book_progress.proofs.counted_journal.CountedJournal.TheSendSync.{the_send as counted_journal_send}
use Rattle.channel_crossing.proofs.BookDriver.{driver_send}
use Rattle.channel_crossing.proofs.ClusterTree.{snapshot_send, snapshot_sync}
use Rattle.snapshot_store.proofs.archive.Archive.TheSendSync.{the_send as archive_send, the_sync as archive_sync}
use Rattle.std.proofs.marker.PhantomData.TheSendSync.{the_send as phantom_send}
use Rattle.xc_base.proofs.list.List.TheSendSync.{the_send as list_send}
use Rattle.xc_base.proofs.shared.Shared.TheSendSync.{the_send as shared_send}
use Rattle.xc_base.proofs.text.Text.TheSendSync.{the_send as text_send}
use Rattle.channel_calls.specs.xds_book.declared.jobs.Job.{Ghosts}
use Rattle.channel_calls.specs.xds_book.contracts.channel_book.Book as Book
use Rattle.channel_calls.specs.xds_book.contracts.channel_book.Book.TheInside as BookInside

pub book_send : (J : RattleType) (g : Ghosts J.Denot) → IsSend J → IsSend (Book.the_row J g)
book_send J g s =
    let inside : IsSend (BookInside.the_row J g) = declared_send (BookInside.the_type J g) (search (sendable, crosses, shared_send, archive_send, archive_sync, snapshot_send, snapshot_sync, counted_journal_send, calls_send, turns_send, driver_send, list_send, text_send, phantom_send) depth 30 steps 3000000) in
    search (sendable, inside) depth 6 steps 300000
