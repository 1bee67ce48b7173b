-- What is kept in a Book, against the history of its journal (this project's own).
use Rattle.std.specs.Prelude.{◌≡◌, ℕ, ◌<◌, ◌≤◌, List, length, All, Bool, false, IfOk, Option, Some, None, slice_get}
use Rattle.boxcar.specs.Table.{Shelves, Where}
use Rattle.xc_base.specs.declared.names.Kind.{Kind}
use Rattle.xds_config.specs.Configs.{IsLawfulConfig, IsLawfulFront}
use Rattle.cluster_tree.specs.declared.snapshot.Snapshot.{Snapshot}
use Rattle.cluster_tree.specs.ViewChanges.{ArePickable}
use Rattle.snapshot_store.specs.Tickets.{AreTicketsOf, IsTicketOf, values_of}
use Rattle.call_journal.specs.declared.entry.What.{What}
use Rattle.call_journal.specs.declared.entry.Entry.{Entry}
use Rattle.call_journal.specs.declared.plan.Listed.{Listed}
use Rattle.book_driver.specs.config_assembly.Orders.{Name}
use Rattle.book_calls.specs.xds_history.Setting.{Setting}
use Rattle.book_calls.specs.xds_history.Pages.{pages}
use Rattle.book_calls.specs.xds_history.References.{snapshots_of}
use Rattle.book_calls.specs.xds_history.Responses.{refused_texts}
use Rattle.book_calls.specs.xds_history.Right.{Right}
use Rattle.book_calls.specs.CallsKept.{AreCallsAt}
use Rattle.book_picks.specs.TurnsKept.{AreTurnsAt}
use Rattle.book_picks.specs.declared.kept_turns.Turns.{Turns}
use Rattle.book_driver.specs.DriverKept.{IsDriverAt}
use Rattle.book_driver.specs.declared.channel_driver.Driver.{Driver}
use Rattle.book_calls.specs.declared.calls.Calls.{Calls}
use Rattle.book_progress.specs.ActorCounts.{actor_entries}
use Rattle.book_progress.specs.ProgressKept.{CountedView, counts_of, most_entries}
use Rattle.book_progress.specs.PlayedPlans.{HasPlayed, IsPlayed}
use Rattle.xds_book.specs.BookViews.{LaneView}

-- a plan has as many lists as there are actors
abbrev pub HasActors : Option (List (List Listed)) → ℕ → Type 0
HasActors None actors = Unit {0}
HasActors (Some plan) actors = length plan ≡ actors

-- the driver is actor 0, and the callers are the others
abbrev pub IsOwn : ℕ → What → Type 0
IsOwn actor (What.Driver event reply) = actor ≡ 0
IsOwn actor (What.Caller event reply) = 0 < actor

-- entries are made by so many actors, the driver's events by the driver
pub record IsBy (actors : ℕ) (e : Entry) : Type 0 where
  pub actor : e.actor < actors
  pub own : IsOwn e.actor e.what

-- a snapshot by which calls can be routed and endpoints be picked
pub record IsLawfulShown (x : Snapshot) : Type 0 where
  pub config : IsLawfulConfig x.config
  pub trees : ArePickable x.trees

-- what holds of a Book at all times
pub record IsBook (plan : Option (List (List Listed))) (archive : Shelves) (s : Setting) (own : Shelves) (journal : CountedView) (tickets : List (Where Snapshot)) (refused : List Name) : Type 0 where
  pub archive_is : own ≡ archive
  pub listener : s.target.key.kind ≡ Kind.Listener
  pub right : Right s journal.entries
  pub counted : journal.counts ≡ counts_of (length journal.counts) journal.entries
  pub few : length journal.entries ≤ most_entries
  pub actors : HasActors plan (length journal.counts)
  pub made : All (IsBy (length journal.counts)) journal.entries
  pub played : IsPlayed plan journal.entries
  pub stored : AreTicketsOf archive tickets
  pub snapshots : values_of tickets ≡ snapshots_of (pages s journal.entries)
  pub lawful : All (λ ticket. IsLawfulShown ticket.value) tickets
  pub refused_is : refused ≡ refused_texts journal.entries

-- what is kept of the history while each step of the driver found memory
pub record IsReady (archive : Shelves) (s : Setting) (past : List Entry) (calls : Calls) (turns : Turns) (driver : Driver) : Type 0 where
  pub calls_are : AreCallsAt archive (pages s past) calls
  pub turns_are : AreTurnsAt (pages s past) turns
  pub driver_is : IsDriverAt s past driver

-- what is kept in a Book
pub record IsKeptIn (plan : Option (List (List Listed))) (archive : Shelves) (s : Setting) (own : Shelves) (journal : CountedView) (calls : Calls) (turns : Turns) (driver : Driver) (refused : List Name) (spent : Bool) : Type 0 where
  pub book : IsBook plan archive s own journal calls.tickets refused
  pub ready : spent ≡ false → IsReady archive s journal.entries calls turns driver

-- a token reads a snapshot of the archive that can be routed by
pub record IsPinned (archive own : Shelves) (ticket : Where Snapshot) : Type 0 where
  pub archive_is : own ≡ archive
  pub stored : IsTicketOf archive ticket
  pub lawful : IfOk ticket.value.config.front IsLawfulFront

-- ---- lanes

-- a lane's actor has played the first of its listed events, as many as the lane counts, and the pin of one more where one is
-- up
abbrev pub HasComeTo : Option (List (List Listed)) → List Entry → LaneView → Type 0
HasComeTo None history lane = Unit {0}
HasComeTo (Some plan) history lane =
    (list : List Listed) → slice_get plan lane.actor ≡ Some list → HasPlayed list lane.count.ended lane.count.pins (actor_entries lane.actor history)
