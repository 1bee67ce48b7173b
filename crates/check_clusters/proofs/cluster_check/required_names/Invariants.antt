use Rattle.std.proofs.Common.{◌≡◌, ◌≢◌, [], All, drop}
use Rattle.check_steps.specs.ResourceNames.{required_name}
use Rattle.check_steps.specs.TableSteps.{each}
use Rattle.check_steps.proofs.EachLemmas.{joined}
use Rattle.check_clusters.proofs.cluster_check.required_names.Given as goal

abbrev pub invariant-loop-child : goal.invariant-loop-child
invariant-loop-child l = record {
  value : joined l.clusters (each required_name (drop l.child-index l.children)) ≡ each required_name l.children;
  some : All (λ name. name ≢ []) l.clusters;
}
