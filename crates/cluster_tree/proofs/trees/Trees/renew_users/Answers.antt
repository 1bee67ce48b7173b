use Rattle.std.proofs.Common.{List, sym, subst}
use Rattle.std.specs.Prelude.{All}
use Rattle.cluster_tree.specs.declared.cluster_trees.Cluster.{Cluster}
use Rattle.cluster_tree.specs.StandingTrees.{Forest}
use Rattle.cluster_tree.specs.ClusterUsers.{FollowsEntry}
use Rattle.cluster_tree.proofs.trees.Trees.renew_users.Goals as goal

pub users_of-requires-clause-follow : goal.users_of-requires-clause-follow
users_of-requires-clause-follow c =
    subst (λ (cs : List Cluster). All FollowsEntry cs) (sym c.deref.ensures.value) (subst (λ (f : Forest). All FollowsEntry f.clusters) (sym c.self.view_is) c.requires)
