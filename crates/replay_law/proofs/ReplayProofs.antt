-- An entry that is made in the turn of a legal history's own is that one: its line and step by the plan, its refused texts by
-- the report, and the rest by both being right.
use Rattle.std.proofs.Common.{◌≡◌, ℕ, List, ◌∷◌, subst}
use Rattle.call_journal.specs.declared.plan.Count.{Count}
use Rattle.call_journal.specs.declared.plan.Listed.{Listed}
use Rattle.session_plan.specs.PlanOfSession.{plan_of}
use Rattle.session_plan.specs.ReadablePayloads.{is_response}
use Rattle.entry_law.specs.xds_history.Setting.{Setting, setting_of}
use Rattle.entry_law.specs.xds_history.Responses.{refused_in}
use Rattle.entry_law.specs.xds_history.Right.{Right}
use Rattle.entry_law.proofs.xds_history.KeepProofs.{right_past}
use Rattle.book_progress.specs.ActorCounts.{count_of}
use Rattle.book_progress.specs.PlayedPlans.{IsNextOf, step_in}
use Rattle.entry_law.proofs.next_law.NextProofs.{own_next}
use Rattle.entry_law.proofs.next_law.PlayLemmas.{IsNextIn}
use Rattle.entry_law.proofs.EntryProofs.{one_entry}
use Rattle.entry_law.proofs.StepProofs.{next_alike}
use Rattle.replay_law.specs.ReplayLaw.{ReplayedIsOne}
use Rattle.replay_law.proofs.PlayedNewest.{next_of_played}
use Rattle.replay_law.proofs.AnsweredRefusals.{refused_alike}

pub replayed_is_one : ReplayedIsOne
replayed_is_one session later past e made legal h =
    let s : Setting = setting_of session.boot session.target in
    let plan : List (List Listed) = plan_of is_response session in
    let count : Count = count_of e.actor past in
    let right : Right s (e ∷ past) = right_past s later (e ∷ past) legal.right in
    let next : IsNextOf plan e.actor count made.line (step_in made.what) past =
    subst (λ (actor : ℕ). IsNextOf plan actor (count_of actor past) made.line (step_in made.what) past) h.actor_is (next_of_played plan made past h.played) in
    let own : IsNextIn next.is.list count e = own_next session later past e next.is.list legal next.is.actor_is in
    let same = next_alike next.is.list count next.listed own.listed made.line e.line (step_in made.what) (step_in e.what)
    next.is.next_is own.get next.line_is own.line next.step_is own.step in
    let refused : refused_in made.what ≡ refused_in e.what =
    refused_alike session.boot session.target past e made h.more e.what made.what right.0 h.right.0 same.1 h.listed h.refused in
    one_entry s past e made right h.right h.actor_is same.0 same.1 refused
