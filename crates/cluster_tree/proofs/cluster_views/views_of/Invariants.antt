use Rattle.std.proofs.Common.{◌≡◌, take}
use Rattle.cluster_tree.specs.StandingTrees.{views_of}
use Rattle.cluster_tree.proofs.cluster_views.views_of.Given as goal

abbrev pub invariant-loop-cluster : goal.invariant-loop-cluster
invariant-loop-cluster l = l.views ≡ views_of (take l.cluster-index l.clusters)
