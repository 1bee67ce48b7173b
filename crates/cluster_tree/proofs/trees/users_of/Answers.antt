use Rattle.cluster_tree.proofs.ClusterLemmas.{read_more, read_all}
use Rattle.cluster_tree.proofs.trees.users_of.Goals as goal

pub loop-place-preserved : goal.loop-place-preserved
loop-place-preserved c =
    read_more c.loop-place.users c.add_users.new.users c.args.clusters.now c.loop-place.place c.index-clusters-place.result c.loop-place-test.true c.index-clusters-place.is c.loop-place.invariant
    c.in_ok-add_users.ensures.grows (c.in_ok-add_users.ensures.entry, c.in_ok-add_users.ensures.serving)

pub returns : goal.returns
returns c = rw (c.note.ensures) (read_all c.loop-place.users c.args.clusters.now c.loop-place.place c.loop-place-test.false c.loop-place.invariant)
