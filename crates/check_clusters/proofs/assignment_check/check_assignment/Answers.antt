use Rattle.std.proofs.Common.{◌≡◌, ◌≢◌, ◌≤◌, ◌<◌, ◌^◌, Ok, [], List, ℕ, AllPairs, sym, subst, ◌∙◌}
use Rattle.xds_config.specs.declared.endpoint_values.Locality.{Locality}
use Rattle.check_clusters.specs.Assignments.{by_priority, stand_soundly}
use Rattle.check_clusters.proofs.LawLemmas.{lawful}
use Rattle.check_clusters.proofs.OrderLemmas.{by_priority_ascends, all_ascend}
use Rattle.check_clusters.proofs.assignment_check.check_assignment.Goals as goal

pub stand_soundly-requires : goal.stand_soundly-requires
stand_soundly-requires c =
    subst (AllPairs (λ (a b : Locality). a.priority ≤ b.priority)) (sym (c.as_slice-2.ensures ∙ c.in_ok-localities.ensures))
    (all_ascend (by_priority c.in_ok-found.found) (by_priority_ascends c.in_ok-found.found))

pub returns-clause-lawful : goal.returns-clause-lawful
returns-clause-lawful c = λ some.
    let sound = subst (λ (ls : List Locality). stand_soundly ls ≡ Ok tt) c.as_slice-2.ensures c.in_ok-stand_soundly.ensures in
    record {
      named = subst (λ (name : List ℕ). name ≢ []) (sym c.in_ok-name.ensures.cases) some;
      localities =
          lawful c.in_ok-found.found c.in_ok-localities.localities c.in_ok-localities.ensures c.in_ok-found.ensures.lawful
          (subst (λ (n : ℕ). n < 2 ^ 31) c.len-2.ensures c.in_ok-few-2.ensures.few) sound;
      few_drops = subst (λ (n : ℕ). n < 2 ^ 31) c.len.ensures c.in_ok-few.ensures.few;
    }
