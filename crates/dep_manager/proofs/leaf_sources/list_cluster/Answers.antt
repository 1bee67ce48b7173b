use Rattle.dep_manager.specs.LeafPlaces.{is_listed}
use Rattle.dep_manager.proofs.PlaceLemmas.{leaf_next}
use Rattle.dep_manager.proofs.leaf_sources.list_cluster.Goals as goal

pub loop-source-preserved : goal.loop-source-preserved
loop-source-preserved c key at =
    leaf_next (is_listed c.args.places.now.entries key at) (is_listed c.loop-source.places.entries key at) (is_listed c.list_place.new.places.entries key at) key c.args.place at c.args.sources.now c.loop-source.source-index c.source-item.result c.loop-source-test.true c.source-item.is
    (c.in_ok-list_place.ensures key at) (c.loop-source.invariant key at)
