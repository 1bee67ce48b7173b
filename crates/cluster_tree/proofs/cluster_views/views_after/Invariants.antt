use Rattle.std.proofs.Common.{◌≡◌, ◌≤◌, ◌*◌, length, take}
use Rattle.cluster_tree.specs.StandingTrees.{views_of}
use Rattle.cluster_tree.proofs.ViewLemmas.{AreBefore}
use Rattle.cluster_tree.proofs.cluster_views.views_after.Given as goal

abbrev pub invariant-loop-number : goal.invariant-loop-number
invariant-loop-number l = record {
  within : l.passed ≤ length l.places;
  before : AreBefore l.places (32 * l.number) l.passed;
  after : l.after ≡ views_of (take (32 * l.number) l.clusters);
}
