-- The last sweep of a legal history of a session (this project's own): where it stands, and how the plan of the session
-- lists it. Histories have the newest entry first.
use Rattle.std.specs.Prelude.{◌≡◌, ◌≢◌, ℕ, List, [], ◌∷◌, ◌++◌, slice_get, Some, None}
use Rattle.call_journal.specs.declared.event.DriverEvent.{DriverEvent}
use Rattle.call_journal.specs.declared.entry.Entry.{Entry}
use Rattle.call_journal.specs.declared.plan.Listed.{Listed}
use Rattle.call_journal.specs.declared.plan.ListedEvent.{ListedEvent}
use Rattle.session_lines.specs.declared.session.Session.{Session}
use Rattle.session_plan.specs.PlanOfSession.{plan_of}
use Rattle.session_plan.specs.ReadablePayloads.{is_response}
use Rattle.next_law.specs.legal_history.Legal.{Legal}
use Rattle.session_shape.specs.SessionShape.{AreLines}
use Rattle.book_progress.specs.ActorCounts.{count_of}
use Rattle.book_progress.specs.PlayedPlans.{IsListed}

-- ---- the one entry of line 0

-- only the last entry of a legal history is of line 0
abbrev pub SweepIsLast : Type 0
SweepIsLast =
    (session : Session) (later past : List Entry) (next e : Entry) → AreLines session.boot session.callers [] session.lines
    → Legal session (next ∷ (later ++ e ∷ past)) → e.line ≢ 0

-- ---- what the plan lists

-- the last sweep as a plan lists it: of line 0, with no gate
abbrev pub listed_sweep : Listed
listed_sweep = record { line = 0; after = None; event = ListedEvent.Driver DriverEvent.Sweep }

-- before the last sweep of a legal history the plan lists it next for the driver
abbrev pub SweepIsListed : Type 0
SweepIsListed =
    (session : Session) (past : List Entry) (sweep : Entry) → Legal session (sweep ∷ past)
    → IsListed (plan_of is_response session) 0 (count_of 0 past) listed_sweep

-- ---- where it stands

-- a last sweep is the driver's and of line 0, and before it no actor has a pin up
pub record IsLastSweep (plan : List (List Listed)) (sweep : Entry) (past : List Entry) : Type 0 where
  pub actor_is : sweep.actor ≡ 0
  pub line_is : sweep.line ≡ 0
  pub no_pin : (actor : ℕ) (list : List Listed) → slice_get plan actor ≡ Some list → (count_of actor past).pins ≡ 0

-- the newest entry of a legal history is such a sweep
abbrev pub SweepStands : Type 0
SweepStands = (session : Session) (past : List Entry) (sweep : Entry) → Legal session (sweep ∷ past) → IsLastSweep (plan_of is_response session) sweep past
