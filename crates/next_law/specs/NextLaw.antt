-- What comes next in a legal history of a session, and how far each actor has come at its end, by the plan of the session
-- (this project's own). Histories have the newest entry first.
use Rattle.std.specs.Prelude.{◌≡◌, ℕ, ◌≤◌, List, [], ◌∷◌, ◌++◌, slice_get, Some}
use Rattle.call_journal.specs.declared.entry.Entry.{Entry}
use Rattle.call_journal.specs.declared.plan.Listed.{Listed}
use Rattle.session_lines.specs.declared.session.Session.{Session}
use Rattle.legal_plan.specs.session_plan.PlanOfSession.{plan_of}
use Rattle.legal_plan.specs.session_plan.ReadablePayloads.{is_response}
use Rattle.legal_plan.specs.legal_history.Legal.{Legal}
use Rattle.session_shape.specs.SessionShape.{AreLines}
use Rattle.book_progress.specs.ActorCounts.{count_of, with_ended}
use Rattle.book_progress.specs.PlayedPlans.{IsNextOf, all_ended, step_in}

-- ---- the next entry

-- each entry of a legal history is the next one that the plan lists for its actor, where the entries before it stand
abbrev pub NextOfLegal : Type 0
NextOfLegal =
    (session : Session) (later past : List Entry) (e : Entry) → AreLines session.boot session.callers [] session.lines → Legal session (later ++ e ∷ past)
    → IsNextOf (plan_of is_response session) e.actor (count_of e.actor past) e.line (step_in e.what) past

-- ---- the end

-- A last sweep is the driver's. Before it each caller has ended all that the plan lists for it, and the driver all but one
-- event; after it all actors have ended all.
pub record IsPlayedOut (plan : List (List Listed)) (sweep : Entry) (past : List Entry) : Type 0 where
  pub actor_is : sweep.actor ≡ 0
  pub callers : (caller : ℕ) (list : List Listed) → 1 ≤ caller → slice_get plan caller ≡ Some list → count_of caller past ≡ all_ended list
  pub driver : (list : List Listed) → slice_get plan 0 ≡ Some list → with_ended (count_of 0 past) ≡ all_ended list
  pub each : (actor : ℕ) (list : List Listed) → slice_get plan actor ≡ Some list → count_of actor (sweep ∷ past) ≡ all_ended list

-- the newest entry of a legal history is such a sweep
abbrev pub EndOfLegal : Type 0
EndOfLegal = (session : Session) (past : List Entry) (sweep : Entry) → Legal session (sweep ∷ past) → IsPlayedOut (plan_of is_response session) sweep past
