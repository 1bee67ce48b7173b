-- Laws of what is kept of calls, and of what calls refer to.
use Rattle.std.specs.Prelude.{◌≡◌, ℕ, List, ◌∷◌}
use Rattle.boxcar.specs.Table.{Shelves}
use Rattle.xc_base.specs.declared.names.CallId.{CallId}
use Rattle.call_journal.specs.declared.entry.Entry.{Entry}
use Rattle.call_journal.specs.declared.event.CallerEvent.{CallerEvent}
use Rattle.call_journal.specs.declared.event.DriverEvent.{DriverEvent}
use Rattle.call_journal.specs.declared.reply.CallerReply.{CallerReply}
use Rattle.call_journal.specs.declared.reply.DriverReply.{DriverReply}
use Rattle.cluster_refs.specs.CallReferences.{References, AreRetained}
use Rattle.xds_history.specs.config_assembly.Orders.{Name}
use Rattle.xds_history.specs.Setting.{Setting}
use Rattle.xds_history.specs.References.{references}
use Rattle.xds_history.specs.Pages.{pages, called, driven}
use Rattle.xds_history.specs.Right.{Right}
use Rattle.book_calls.specs.declared.calls.Calls.{Calls}
use Rattle.book_calls.specs.RefsKept.{AreRefsAt}
use Rattle.book_calls.specs.CallsKept.{AreCallsAt}

-- a pick leaves what is kept as it is
abbrev pub PicksLeave : Type 0
PicksLeave = (archive : Shelves) (s : Setting) (past : List Entry) (actor line : ℕ) (id : CallId) (word : ℕ) (reply : CallerReply) (c : Calls) → AreCallsAt archive (pages s past) c →
    AreCallsAt archive (pages s (called actor line (CallerEvent.Pick id word) reply ∷ past)) c

-- a driver's entry changes nothing of what calls refer to
abbrev pub DriversChangeNoReferences : Type 0
DriversChangeNoReferences = (s : Setting) (past : List Entry) (actor line : ℕ) (event : DriverEvent) (reply : DriverReply) → Right s (driven actor line event reply ∷ past) →
    references (pages s (driven actor line event reply ∷ past)) ≡ references (pages s past)

-- what is retained for the pins and holds of a history are its references
abbrev pub RetainedAreReferences : Type 0
RetainedAreReferences = (s : Setting) (past : List Entry) (refs : References) (names : List Name) → Right s past → AreRefsAt (pages s past) refs → AreRetained refs names →
    names ≡ references (pages s past)
