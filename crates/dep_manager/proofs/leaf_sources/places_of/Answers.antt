use Rattle.std.proofs.Common.{◌≡◌, arith, get_or, rules, sym, subst}
use Rattle.std.proofs.lemmas.List.{take_all}
use Rattle.dep_manager.specs.LeafPlaces.{ArePlacesOf}
use Rattle.dep_manager.proofs.PlaceLemmas.{cluster_next}
use Rattle.dep_manager.proofs.leaf_sources.places_of.Goals as goal

pub loop-place-preserved : goal.loop-place-preserved
loop-place-preserved c =
    let own : c.as_slice.result.now ≡ get_or c.args.sources.now c.loop-place.place c.as_slice.result.now = search rules in
    cluster_next c.args.sources.now c.loop-place.place c.as_slice.result.now c.loop-place.places.entries c.list_cluster.new.places.entries c.loop-place-test.true own c.loop-place.invariant c.in_ok-list_cluster.ensures

pub returns : goal.returns
returns c =
    subst (ArePlacesOf c.args.sources.now) (sym c.in_ok-table.ensures)
    (subst (λ sources. ArePlacesOf sources c.loop-place.places.entries) (take_all c.loop-place.place c.args.sources.now (omega (arith, c.loop-place-test.false))) c.loop-place.invariant)
