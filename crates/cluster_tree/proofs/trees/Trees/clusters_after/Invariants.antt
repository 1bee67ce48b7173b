use Rattle.std.proofs.Common.{◌≡◌, ◌≤◌, length, take}
use Rattle.cluster_tree.specs.StandingTrees.{clusters_after}
use Rattle.cluster_tree.specs.ClusterUsers.{StandBut}
use Rattle.cluster_tree.specs.ViewChanges.{MarkChanges}
use Rattle.cluster_tree.proofs.MergeLemmas.{ArePassed}
use Rattle.cluster_tree.proofs.trees.Trees.clusters_after.Given as goal

abbrev pub invariant-loop-place : goal.invariant-loop-place
invariant-loop-place l = record {
  within : l.from ≤ length l.old;
  passed : ArePassed l.old l.from l.entries l.place;
  clusters : l.next.clusters.items ≡ clusters_after l.fn.now l.reports.entries (take l.place l.entries) l.old;
  marks : MarkChanges l.next.changed l.old l.next.clusters.items;
  stand : StandBut l.next.anew l.old l.next.clusters.items;
}
