-- A Book with the lanes of its actors, and what is played on it (this project's own).
use Rattle.std.specs.Prelude.{◌≡◌, ℕ, ◌+◌, List, [], ◌∷◌, ◌++◌, length, Bool, true, false, Option, Some, None, slice_get}
use Rattle.call_journal.specs.declared.entry.Entry.{Entry}
use Rattle.call_journal.specs.declared.entry.What.{What}
use Rattle.call_journal.specs.declared.event.DriverEvent.{DriverEvent}
use Rattle.call_journal.specs.declared.reply.DriverReply.{DriverReply}
use Rattle.call_journal.specs.declared.plan.Listed.{Listed}
use Rattle.call_journal.specs.declared.plan.ListedEvent.{ListedEvent}
use Rattle.check_steps.specs.Asking.{IsSubsequence}
use Rattle.config_assembly.specs.Orders.{Name}
use Rattle.resource_check.specs.declared.delivery.Prepared.{Prepared}
use Rattle.xds_bootstrap.specs.declared.bootstrap.Bootstrap.{Bootstrap}
use Rattle.xds_name.specs.declared.target.Target.{Target}
use Rattle.session_lines.specs.declared.session.Session.{Session}
use Rattle.session_plan.specs.PlanOfSession.{plan_of}
use Rattle.session_plan.specs.ReadablePayloads.{is_response}
use Rattle.legal_plan.specs.xds_history.Responses.{refused_texts}
use Rattle.legal_plan.specs.legal_history.Legal.{EndsInSweep}
use Rattle.book_progress.specs.ActorCounts.{count_of}
use Rattle.book_progress.specs.ProgressKept.{counts_of}
use Rattle.xds_book.specs.BookViews.{BookView, LaneView}
use Rattle.xds_book.specs.BookEntries.{entry_of}
use Rattle.session_shape.specs.SessionShape.{IsWellFormed}
use Rattle.session_player.specs.LineProgress.{IsAtEnd, IsAtLine, IsDriving}

-- ---- lanes

-- the lane of an actor counts as the history does
pub record IsLaneAt (history : List Entry) (actor : ℕ) (lane : LaneView) : Type 0 where
  pub actor_is : lane.actor ≡ actor
  pub count_is : lane.count ≡ count_of actor history

-- there is a lane for each actor of the Book, in their order
pub record AreLanes (book : BookView) (lanes : List LaneView) : Type 0 where
  pub counts_are : book.counts ≡ counts_of (length book.counts) book.entries
  pub many : length lanes ≡ length book.counts
  pub each : (actor : ℕ) (lane : LaneView) → slice_get lanes actor ≡ Some lane → IsLaneAt book.entries actor lane

-- ---- steps

-- a step has made an entry
pub record Adds (actor line : ℕ) (what : What) (old new : BookView) : Type 0 where
  pub entries : new.entries ≡ entry_of actor line what ∷ old.entries
  pub actors : length new.counts ≡ length old.counts
  pub goes_on : new.is_spent ≡ old.is_spent

-- the texts that were refused when an event was prepared
abbrev pub texts_in : Option Prepared → List Name
texts_in None = []
texts_in (Some prepared) = prepared.refused

-- a step has made an entry of the driver, which refuses what was refused when the event was prepared, or nothing
pub record Drove (line : ℕ) (event : DriverEvent) (prepared : Option Prepared) (old new : BookView) : Type 0 where
  pub reply : DriverReply
  pub adds : Adds 0 line (What.Driver event reply) old new
  pub refuses : IsSubsequence reply.refused (texts_in prepared)

-- what entries refuse has grown by texts that were refused in the meantime
pub record Refuses (old new : List Entry) (before after : List Name) : Type 0 where
  pub told : List Name
  pub told_is : after ≡ before ++ told
  pub kept : List Name
  pub kept_is : refused_texts new ≡ refused_texts old ++ kept
  pub among : IsSubsequence kept told

-- ---- what is played

-- the event of the driver, where a listed event is one
abbrev pub driver_in : ListedEvent → Option DriverEvent
driver_in (ListedEvent.Driver event) = Some event
driver_in event = None

-- a plan, a bootstrap and a target are those of a session, which is well formed
pub record IsOfSession (plan : Option (List (List Listed))) (boot : Bootstrap) (target : Target) (session : Session) (lists : List (List Listed)) : Type 0 where
  pub plan_is : plan ≡ Some lists
  pub lists_are : lists ≡ plan_of is_response session
  pub boot_is : boot ≡ session.boot
  pub target_is : target ≡ session.target
  pub formed : IsWellFormed session

-- a Book has the driver and the callers of the session, and takes more entries
pub record GoesOn (session : Session) (book : BookView) : Type 0 where
  pub actors : length book.counts ≡ session.callers + 1
  pub goes_on : book.is_spent ≡ false

-- a Book stands before the line at this place
pub record StandsAt (session : Session) (place : ℕ) (book : BookView) : Type 0 where
  pub goes : GoesOn session book
  pub at : IsAtLine session place book.entries

-- a Book stands in a line of the driver, which is the one at this place
pub record StandsIn (session : Session) (place : ℕ) (book : BookView) : Type 0 where
  pub goes : GoesOn session book
  pub driving : IsDriving session place book.entries

-- an event of the driver has ended its line, or another of its line comes next
abbrev pub HasDriven : Session → ℕ → BookView → Bool → Type 0
HasDriven session place book true = StandsAt session (place + 1) book
HasDriven session place book false = StandsIn session place book

-- a Book stands at the end: the newest entry is the last sweep
pub record StandsAtEnd (session : Session) (book : BookView) : Type 0 where
  pub goes : GoesOn session book
  pub at : IsAtEnd session book.entries
  pub sweeps : EndsInSweep book.entries
