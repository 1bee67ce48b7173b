use Rattle.std.proofs.Common.{◌≡◌, ◌<◌, ℕ, Some, rules, arith, length, refl, sym, ap, ◌∙◌}
use Rattle.std.specs.Prelude.{slice_get}
use Rattle.xds_config.specs.declared.config.ClusterEntry.{ClusterEntry}
use Rattle.book_picks.proofs.NamedPlaces.{PutsPlace, all_places, no_places, one_place_more}
use Rattle.book_picks.proofs.cluster_places.places_of.Goals as goal

pub loop-place-init : goal.loop-place-init
loop-place-init c = no_places c.args.clusters.now c.new-places.result.entries c.new-places.ensures.empty

pub loop-place-preserved : goal.loop-place-preserved
loop-place-preserved c =
    let place : ℕ = c.loop-place.place in
    let own : ClusterEntry = c.get.result.now in
    let at : slice_get c.args.clusters.now place ≡ Some own = c.at.ensures ∙ ap (λ x. Some x) (sym c.get.ensures) in
    let copy : c.in_ok-name.name ≡ own.name = search rules in
    let puts : PutsPlace c.loop-place.places.entries c.insert.new.self.entries own.name place = rw (← copy) c.in_ok-insert.ensures.updates.0 in
    one_place_more place c.args.clusters.now c.loop-place.places.entries c.insert.new.self.entries own c.requires.rising at puts c.loop-place.invariant

pub returns : goal.returns
returns c = all_places c.loop-place.place c.args.clusters.now c.loop-place.places.entries (omega (arith, c.loop-place-test.false, c.len-place-end.ensures)) c.loop-place.invariant
