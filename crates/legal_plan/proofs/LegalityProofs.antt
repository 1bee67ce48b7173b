-- The laws.
use Rattle.std.proofs.Common.{◌≡◌, ◌<◌, ◌≤◌, ℕ, List, [], ◌∷◌, length, get_or, All, Bool, true, false, Some, refl, sym, ap, ◌∙◌, subst, ⊎_elim, arith}
use Rattle.std.specs.Prelude.{reverse, ◌==◌}
use Rattle.std.specs.List.{slice_get}
use Rattle.std.proofs.lemmas.Bool.{cases_lt}
use Rattle.std.proofs.lemmas.Bool.Decides.{nat_tests}
use Rattle.std.proofs.lemmas.List.Elements.{All-head, All-tail}
use Rattle.std.proofs.lemmas.Option.{slice_get-get_or}
use Rattle.call_journal.specs.declared.entry.Entry.{Entry}
use Rattle.call_journal.specs.declared.plan.Listed.{Listed}
use Rattle.legal_history.specs.session_script.Plan.{entries_by}
use Rattle.session_lines.specs.declared.session.Session.{Session}
use Rattle.session_plan.specs.PlanLaws.{HaveEnded}
use Rattle.session_plan.specs.PlanOfSession.{plan_of}
use Rattle.session_plan.specs.ReadablePayloads.{is_response}
use Rattle.session_plan.proofs.LawProofs.{by_reverse, ended_list_is_played, ended_plan_is_listed}
use Rattle.legal_history.specs.Legal.{AreStarted}
use Rattle.legal_plan.specs.PlanLegality.{EndedPlanIsLegal, PlaysAreStarted}
use Rattle.legal_plan.proofs.StartLemmas.{plays_started}

pub plays_are_started : PlaysAreStarted
plays_are_started list entries h = plays_started list entries h

-- an actor that has no list has no entry
none_by : (n actor : ℕ) (es : List Entry) → n ≤ actor → All (λ e. e.actor < n) es → entries_by actor es ≡ []
none_by n actor [] le all = refl
none_by n actor (e ∷ es) le all =
    let less : e.actor < n = All-head (λ (x : Entry). x.actor < n) e es all in
    let other : (e.actor == actor) ≡ false = grind (arith, nat_tests, less, le) in
    rw other (none_by n actor es le (All-tail (λ (x : Entry). x.actor < n) e es all))

started : (plan : List (List Listed)) (history : List Entry) → HaveEnded plan history → (actor : ℕ) → AreStarted (entries_by actor (reverse history))
started plan history h actor =
    subst (λ (es : List Entry). AreStarted es) (sym (by_reverse actor history))
    (⊎_elim
    (λ (lt : actor < length plan).
    let list : List Listed = get_or plan actor [] in
    plays_started list (reverse (entries_by actor history)) (ended_list_is_played list (entries_by actor history) (h.each actor list (slice_get-get_or plan actor [] lt))))
    (λ (le : length plan ≤ actor). subst (λ (es : List Entry). AreStarted (reverse es)) (sym (none_by (length plan) actor history le h.actors)) tt)
    (cases_lt actor (length plan)))

pub ended_plan_is_legal : EndedPlanIsLegal
ended_plan_is_legal session history right h opened ends = record {
  right = right;
  listed = ended_plan_is_listed is_response session history h;
  started = started (plan_of is_response session) history h;
  opened = opened;
  ends = ends;
}
