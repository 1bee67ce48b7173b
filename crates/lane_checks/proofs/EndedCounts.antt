-- The counts of actors that have ended all that is listed for them.
use Rattle.std.proofs.Common.{◌≡◌, ℕ, ◌+◌, List, Bool, true, false, Option, Some, None, refl, sym, ap, ◌∙◌, arith}
use Rattle.std.specs.Prelude.{◌==◌}
use Rattle.std.specs.List.{slice_get}
use Rattle.std.proofs.lemmas.Bool.Decides.{nat_tests}
use Rattle.call_journal.specs.declared.plan.Count.{Count}
use Rattle.call_journal.specs.declared.plan.Listed.{Listed}
use Rattle.lane_checks.specs.EndedPlans.{HaveEndedTo, all_ended}

abbrev all_of : Option (List Listed) → Option Count
all_of None = None
all_of (Some list) = Some (all_ended list)

-- one actor more
pub ended_more : (n : ℕ) (lists : List (List Listed)) (counts : List Count) (list : List Listed) → slice_get lists n ≡ Some list → slice_get counts n ≡ Some (all_ended list)
    → HaveEndedTo n lists counts → HaveEndedTo (n + 1) lists counts
ended_more n lists counts list at ended to actor other less get = by_test (actor == n) refl
  where
    by_test : (b : Bool) → (actor == n) ≡ b → slice_get counts actor ≡ Some (all_ended other)
    by_test true is =
        let same : actor ≡ n = grind (arith, nat_tests) in
        let one : Some list ≡ Some other = sym at ∙ (ap (λ (k : ℕ). slice_get lists k) (sym same) ∙ get) in
        ap (λ (k : ℕ). slice_get counts k) same ∙ (ended ∙ ap (λ (o : Option (List Listed)). all_of o) one)
    by_test false is = to actor other (grind (arith, nat_tests)) get
