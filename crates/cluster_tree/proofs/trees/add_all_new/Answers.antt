use Rattle.std.proofs.Common.{ℕ, arith}
use Rattle.std.proofs.lemmas.List.{get_or_default}
use Rattle.cluster_tree.specs.declared.cluster_trees.Cluster.{Cluster}
use Rattle.cluster_tree.specs.ClusterUsers.{AreReadIn}
use Rattle.tree_steps.proofs.UserLemmas.{grows_on}
use Rattle.cluster_tree.proofs.ClusterLemmas.{hold_marked, hold_more, read_by}
use Rattle.cluster_tree.proofs.trees.add_all_new.Goals as goal

pub loop-place-preserved : goal.loop-place-preserved
loop-place-preserved c = record {
  grows = grows_on c.args.users.now c.loop-place.users c.add_users.new.users c.loop-place.invariant.grows c.in_ok-add_users.ensures.grows;
  read = hold_more (λ (place : ℕ) (x : Cluster). AreReadIn c.loop-place.users place x.entry.state x.state) (λ (place : ℕ) (x : Cluster). AreReadIn c.add_users.new.users place x.entry.state x.state) c.places-places.result.now
      c.loop-place.place-index _ c.args.clusters.now c.index-clusters-place.result c.loop-place-test.true
      (get_or_default c.places-places.result.now c.loop-place.place-index 0 _ c.loop-place-test.true) (omega (arith, c.requires.count, c.places-places.ensures.within c.loop-place.place-index 0 c.loop-place-test.true)) c.index-clusters-place.is (λ place x. read_by c.loop-place.users c.add_users.new.users place x c.in_ok-add_users.ensures.grows)
      c.loop-place.invariant.read (c.in_ok-add_users.ensures.entry, c.in_ok-add_users.ensures.serving);
}

pub returns : goal.returns
returns c =
    hold_marked (λ (place : ℕ) (x : Cluster). AreReadIn c.args.users.now place x.entry.state x.state) (λ (place : ℕ) (x : Cluster). AreReadIn c.loop-place.users place x.entry.state x.state)
    c.args.anew.now c.places-places.result.now c.loop-place.place-index c.args.clusters.now c.places-places.ensures.marked c.loop-place-test.false c.requires.others
    (λ place x. read_by c.args.users.now c.loop-place.users place x c.loop-place.invariant.grows) c.loop-place.invariant.read
