-- An entry over a past is fixed by what isn't up to the client, and so by the plan and the refused texts.
use Rattle.std.proofs.Common.{◌≡◌, ℕ, List, ◌∷◌, map, ap, subst}
use Rattle.call_journal.specs.declared.entry.Entry.{Entry}
use Rattle.call_journal.specs.declared.entry.What.{What}
use Rattle.call_journal.specs.declared.plan.Count.{Count}
use Rattle.call_journal.specs.declared.plan.Listed.{Listed}
use Rattle.session_plan.specs.PlanOfSession.{plan_of}
use Rattle.session_plan.specs.ReadablePayloads.{is_response}
use Rattle.next_law.specs.xds_history.Setting.{Setting, setting_of}
use Rattle.next_law.specs.xds_history.HistoryLaws.{Asked, asked_of, given_in}
use Rattle.next_law.specs.xds_history.Responses.{refused_in}
use Rattle.next_law.specs.xds_history.Right.{Right}
use Rattle.next_law.proofs.xds_history.KeepProofs.{right_past}
use Rattle.next_law.proofs.xds_history.LawProofs.{one_reply}
use Rattle.book_progress.specs.ActorCounts.{count_of}
use Rattle.book_progress.specs.PlayedPlans.{IsNextOf, step_in}
use Rattle.next_law.proofs.NextProofs.{own_next}
use Rattle.next_law.proofs.PlayLemmas.{IsNextIn}
use Rattle.entry_law.specs.EntryLaw.{NextIsOne, OneEntry}
use Rattle.entry_law.proofs.StepProofs.{next_alike}

-- what was given is the step and the refused texts
given_is : (what other : What) → step_in what ≡ step_in other → refused_in what ≡ refused_in other → given_in what ≡ given_in other
given_is (What.Driver event reply) (What.Driver called answer) steps refused = cc (steps, refused)
given_is (What.Driver event reply) (What.Caller called answer) steps refused = absurd (cc steps)
given_is (What.Caller event reply) (What.Driver called answer) steps refused = absurd (cc steps)
given_is (What.Caller event reply) (What.Caller called answer) steps refused = cc steps

pub one_entry : OneEntry
one_entry s past e other right more actors lines steps refused =
    let given : given_in other.what ≡ given_in e.what = given_is other.what e.what steps refused in
    let asked : asked_of other ≡ asked_of e = cc (actors, lines, given) in
    let both : other ∷ past ≡ e ∷ past = one_reply s (other ∷ past) (e ∷ past) more right (ap (λ (a : Asked). a ∷ map asked_of past) asked) in
    cc both

pub next_is_one : NextIsOne
next_is_one session later past e other legal right next actors refused =
    let s : Setting = setting_of session.boot session.target in
    let plan : List (List Listed) = plan_of is_response session in
    let count : Count = count_of e.actor past in
    let its : IsNextOf plan e.actor count other.line (step_in other.what) past =
    subst (λ (actor : ℕ). IsNextOf plan actor (count_of actor past) other.line (step_in other.what) past) actors next in
    let own : IsNextIn its.is.list count e = own_next session later past e its.is.list legal its.is.actor_is in
    let same = next_alike its.is.list count its.listed own.listed other.line e.line (step_in other.what) (step_in e.what)
    its.is.next_is own.get its.line_is own.line its.step_is own.step in
    one_entry s past e other (right_past s later (e ∷ past) legal.right) right actors same.0 same.1 refused
