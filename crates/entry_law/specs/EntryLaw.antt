-- What fixes an entry over a past: its actor, what the plan lists next for it, and the pattern texts that are refused (this
-- project's own). Histories have the newest entry first.
use Rattle.std.specs.Prelude.{◌≡◌, ℕ, List, ◌∷◌, ◌++◌}
use Rattle.call_journal.specs.declared.entry.Entry.{Entry}
use Rattle.call_journal.specs.declared.plan.Count.{Count}
use Rattle.call_journal.specs.declared.plan.Listed.{Listed}
use Rattle.session_lines.specs.declared.session.Session.{Session}
use Rattle.session_plan.specs.PlanOfSession.{plan_of}
use Rattle.session_plan.specs.ReadablePayloads.{is_response}
use Rattle.next_law.specs.xds_history.Setting.{Setting, setting_of}
use Rattle.next_law.specs.xds_history.Responses.{refused_in}
use Rattle.next_law.specs.xds_history.Right.{Right}
use Rattle.next_law.specs.legal_history.Legal.{Legal}
use Rattle.book_progress.specs.ActorCounts.{count_of}
use Rattle.book_progress.specs.PlayedPlans.{IsNextOf, Step, step_in}

-- where an actor has come so far, a plan lists one line and one step next
abbrev pub OneNextStep : Type 0
OneNextStep =
    (plan : List (List Listed)) (actor : ℕ) (count : Count) (line number : ℕ) (step event : Step) (past : List Entry)
    → IsNextOf plan actor count line step past → IsNextOf plan actor count number event past
    → (line ≡ number) × (step ≡ event)

-- two right entries over one past are the same where their actor, line, step and refused pattern texts are
abbrev pub OneEntry : Type 0
OneEntry =
    (s : Setting) (past : List Entry) (e other : Entry) → Right s (e ∷ past) → Right s (other ∷ past)
    → other.actor ≡ e.actor → other.line ≡ e.line → step_in other.what ≡ step_in e.what → refused_in other.what ≡ refused_in e.what
    → other ≡ e

-- Over the past of an entry of a legal history, another one that is right there and the next one of its actor by the plan of the
-- session is that entry, where both have the same actor and tell the same pattern texts as refused.
abbrev pub NextIsOne : Type 0
NextIsOne =
    (session : Session) (later past : List Entry) (e other : Entry)
    → Legal session (later ++ e ∷ past) → Right (setting_of session.boot session.target) (other ∷ past)
    → IsNextOf (plan_of is_response session) other.actor (count_of other.actor past) other.line (step_in other.what) past
    → other.actor ≡ e.actor → refused_in other.what ≡ refused_in e.what
    → other ≡ e
