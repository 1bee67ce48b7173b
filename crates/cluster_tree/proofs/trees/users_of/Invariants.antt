use Rattle.std.proofs.Common.{take}
use Rattle.cluster_tree.specs.ClusterUsers.{AreRead}
use Rattle.cluster_tree.proofs.trees.users_of.Given as goal

abbrev pub invariant-loop-place : goal.invariant-loop-place
invariant-loop-place l = AreRead l.users (take l.place l.clusters)
