use Rattle.cluster_tree.specs.ClusterUsers.{AreReadIn}
use Rattle.tree_steps.specs.Users.{Grows}
use Rattle.cluster_tree.proofs.ClusterLemmas.{HoldAt}
use Rattle.cluster_tree.proofs.trees.add_all_new.Given as goal

abbrev pub invariant-loop-place : goal.invariant-loop-place
invariant-loop-place l = record {
  grows : Grows l.initial.users l.users;
  read : HoldAt (λ place c. AreReadIn l.users place c.entry.state c.state) l.places l.place-index l.clusters;
}
