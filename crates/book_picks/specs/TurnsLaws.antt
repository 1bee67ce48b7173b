-- Entries that leave what is kept of picks.
use Rattle.std.specs.Prelude.{◌≡◌, ℕ, List, ◌∷◌, Some, slice_get}
use Rattle.xds_config.specs.declared.config.ClusterEntry.{ClusterEntry}
use Rattle.call_journal.specs.declared.event.DriverEvent.{DriverEvent}
use Rattle.call_journal.specs.declared.event.CallerEvent.{CallerEvent}
use Rattle.call_journal.specs.declared.reply.DriverReply.{DriverReply}
use Rattle.call_journal.specs.declared.reply.CallerReply.{CallerReply}
use Rattle.call_journal.specs.declared.entry.What.{What}
use Rattle.call_journal.specs.declared.entry.Entry.{Entry}
use Rattle.book_trees.specs.xds_history.Setting.{Setting}
use Rattle.book_trees.specs.xds_history.Page.{config_now, trees_now}
use Rattle.book_trees.specs.xds_history.Pages.{pages}
use Rattle.book_picks.specs.declared.kept_turns.Turns.{Turns}
use Rattle.book_trees.specs.TreesKept.{clusters_of}
use Rattle.book_picks.specs.TurnsKept.{AreTurnsAt}
use Rattle.book_picks.specs.RenewedRows.{StaysServed}

abbrev pub IsNoPick : CallerEvent → Type 0
IsNoPick (CallerEvent.Pick id word) = ⊥
IsNoPick _ = Unit {0}

-- a caller's entry that isn't a pick leaves what is kept of picks as it is
abbrev pub CallersLeaveTurns : Type 0
CallersLeaveTurns = (s : Setting) (past : List Entry) (e : Entry) (event : CallerEvent) (reply : CallerReply) (turns : Turns) → e.what ≡ What.Caller event reply → IsNoPick event →
    AreTurnsAt (pages s past) turns → AreTurnsAt (pages s (e ∷ past)) turns

-- so does a driver's entry at which the configuration stays, and what is served of each of its clusters
abbrev pub DriversLeaveTurns : Type 0
DriversLeaveTurns = (s : Setting) (past : List Entry) (e : Entry) (event : DriverEvent) (reply : DriverReply) (turns : Turns) → e.what ≡ What.Driver event reply →
    config_now (pages s (e ∷ past)) ≡ config_now (pages s past) →
    ((place : ℕ) (entry : ClusterEntry) → slice_get (clusters_of (config_now (pages s past))) place ≡ Some entry → StaysServed (trees_now (pages s past)) (trees_now (pages s (e ∷ past))) entry) →
    AreTurnsAt (pages s past) turns → AreTurnsAt (pages s (e ∷ past)) turns
