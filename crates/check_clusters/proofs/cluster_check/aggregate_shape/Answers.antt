use Rattle.std.proofs.Common.{◌≡◌, ◌<◌, ℕ, List, length, subst, arith}
use Rattle.xc_base.specs.declared.reason.Reason.TheVariants.{NoClusters}
use Rattle.check_steps.specs.ResourceNames.{required_name}
use Rattle.check_steps.proofs.EachLemmas.{each_count}
use Rattle.check_steps.proofs.NameLemmas.{some_of, some_members}
use Rattle.check_clusters.proofs.cluster_check.aggregate_shape.Goals as goal

pub returns-clause-lawful : goal.returns-clause-lawful
returns-clause-lawful c = λ name.
    let children = c.in_ok-children.children in
    let clusters = c.in_ok-clusters.clusters in
    let count : length clusters ≡ length children =
    subst (λ (list : List (List ℕ)). length clusters ≡ length list) c.as_slice-2.ensures (each_count required_name c.as_slice-2.result.now clusters c.in_ok-clusters.ensures.value) in
    let some : 0 < length children = some_members children (some_of children _ NoClusters c.is_empty.ensures c.in_ok-demand-3.ensures) in
    record {
      some = omega (arith, count, some);
      named = c.in_ok-clusters.ensures.some;
      few = let few = c.in_ok-few.ensures.few in omega (arith, count, c.len.ensures, few);
    }
