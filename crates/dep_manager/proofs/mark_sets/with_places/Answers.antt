use Rattle.std.proofs.Common.{sym}
use Rattle.std.proofs.lemmas.List.{get_or_default}
use Rattle.dep_manager.specs.LeafPlaces.{has_place}
use Rattle.dep_manager.proofs.MarkSetLemmas.{or_none, with_next}
use Rattle.dep_manager.proofs.mark_sets.with_places.Goals as goal

pub loop-place-init : goal.loop-place-init
loop-place-init c at = sym (or_none (has_place c.args.before.keys at))

pub loop-place-preserved : goal.loop-place-preserved
loop-place-preserved c = with_next c.args.before.keys c.loop-place.places.keys c.insert.new.self.keys c.args.more.now c.loop-place.place-index _ c.loop-place-test.true (get_or_default c.args.more.now c.loop-place.place-index 0 _ c.loop-place-test.true) c.in_ok-insert.ensures.keys c.loop-place.invariant
