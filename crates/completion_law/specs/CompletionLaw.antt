-- How what has been played of a session's plan is played on, to its last sweep and to a legal history (this project's own).
-- Histories have the newest entry first.
use Rattle.std.specs.Prelude.{◌≡◌, ◌≢◌, ◌≤◌, ◌⊎◌, ℕ, List, [], ◌++◌, All, Some, slice_get}
use Rattle.call_journal.specs.declared.event.DriverEvent.{DriverEvent}
use Rattle.call_journal.specs.declared.entry.Entry.{Entry}
use Rattle.call_journal.specs.declared.plan.Listed.{Listed}
use Rattle.session_lines.specs.declared.session.Session.{Session}
use Rattle.session_plan.specs.PlanOfSession.{plan_of}
use Rattle.session_plan.specs.ReadablePayloads.{is_response}
use Rattle.reply_law.specs.xds_history.Setting.{setting_of}
use Rattle.reply_law.specs.xds_history.Right.{Right}
use Rattle.sweep_law.specs.legal_history.Legal.{Legal}
use Rattle.session_shape.specs.SessionShape.{AreLines}
use Rattle.book_progress.specs.ActorCounts.{count_of, with_ended}
use Rattle.book_progress.specs.PlayedPlans.{IsListed, IsNextOf, IsPlanPlayed, Step, all_ended, driver}
use Rattle.sweep_law.specs.SweepLaw.{listed_sweep}

-- no entry is the last sweep, which alone is of line 0
abbrev pub HasNoSweep : List Entry → Type 0
HasNoSweep past = All (λ e. e.line ≢ 0) past

-- ---- what comes next

-- by the plan some actor has a step next that is of a line of the session, and the line that gates it has ended
pub record GoesOn (plan : List (List Listed)) (past : List Entry) : Type 0 where
  pub actor : ℕ
  pub line : ℕ
  pub step : Step
  pub numbered : line ≢ 0
  pub next : IsNextOf plan actor (count_of actor past) line step past

-- All is played but the last sweep, which comes next: each caller has ended all that the plan lists for it, and the driver all
-- but one event.
pub record IsAtSweep (plan : List (List Listed)) (past : List Entry) : Type 0 where
  pub callers : (caller : ℕ) (list : List Listed) → 1 ≤ caller → slice_get plan caller ≡ Some list → count_of caller past ≡ all_ended list
  pub driven : (list : List Listed) → slice_get plan 0 ≡ Some list → with_ended (count_of 0 past) ≡ all_ended list
  pub listed : IsListed plan 0 (count_of 0 past) listed_sweep
  pub next : IsNextOf plan 0 (count_of 0 past) 0 (driver DriverEvent.Sweep) past

-- entries that play the plan of a session can be played on, where none of them is the last sweep
abbrev pub AlwaysGoesOn : Type 0
AlwaysGoesOn =
    (session : Session) (past : List Entry) → AreLines session.boot session.callers [] session.lines → IsPlanPlayed (plan_of is_response session) past → HasNoSweep past
    → GoesOn (plan_of is_response session) past ⊎ IsAtSweep (plan_of is_response session) past

-- ---- what it comes to

-- right entries that play the plan of the session, and none of them is the last sweep
pub record IsLegalSoFar (session : Session) (past : List Entry) : Type 0 where
  pub right : Right (setting_of session.boot session.target) past
  pub played : IsPlanPlayed (plan_of is_response session) past
  pub no_sweep : HasNoSweep past

-- with these entries a legal history of the session begins
pub record BeginsLegal (session : Session) (past : List Entry) : Type 0 where
  pub later : List Entry
  pub legal : Legal session (later ++ past)

-- what is legal so far is the beginning of a legal history
abbrev pub LegalSoFarBeginsLegal : Type 0
LegalSoFarBeginsLegal =
    (session : Session) (past : List Entry) → AreLines session.boot session.callers [] session.lines → IsLegalSoFar session past → BeginsLegal session past

-- a session has a legal history
pub record HasLegalHistory (session : Session) : Type 0 where
  pub history : List Entry
  pub legal : Legal session history

-- each session whose lines are well formed has one
abbrev pub EachHasLegalHistory : Type 0
EachHasLegalHistory = (session : Session) → AreLines session.boot session.callers [] session.lines → HasLegalHistory session
