use Rattle.std.proofs.Common.{◌≤◌, length}
use Rattle.cluster_tree.proofs.ViewLemmas.{AreBefore}
use Rattle.cluster_tree.proofs.cluster_views.count_before.Given as goal

abbrev pub invariant-loop-count : goal.invariant-loop-count
invariant-loop-count l = record {
  within : l.count ≤ length l.places;
  before : AreBefore l.places l.end l.count;
}
