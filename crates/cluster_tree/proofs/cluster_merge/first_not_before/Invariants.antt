use Rattle.std.proofs.Common.{◌<◌, ◌≤◌, ℕ, length, get_or}
use Rattle.xds_config.specs.Configs.{IsNameBefore}
use Rattle.cluster_tree.specs.declared.cluster_trees.Cluster.{Cluster}
use Rattle.cluster_tree.proofs.cluster_merge.first_not_before.Given as goal

abbrev pub invariant-loop-place : goal.invariant-loop-place
invariant-loop-place l = record {
  within : l.place ≤ length l.clusters;
  passed : (k : ℕ) (d : Cluster) → k < l.place → IsNameBefore (get_or l.clusters k d).entry.name l.name;
}
