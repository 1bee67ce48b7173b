use Rattle.std.proofs.Common.{◌≡◌, ◌<◌, ℕ, true}
use Rattle.dep_manager.specs.LeafPlaces.{has_place}
use Rattle.dep_manager.proofs.mark_sets.all_places.Given as goal

abbrev pub invariant-loop-place : goal.invariant-loop-place
invariant-loop-place l = (at : ℕ) → at < l.place → has_place l.places.keys at ≡ true
