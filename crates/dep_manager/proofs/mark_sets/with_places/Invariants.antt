use Rattle.std.proofs.Common.{◌≡◌, ◌||◌, ℕ, take}
use Rattle.dep_manager.specs.LeafPlaces.{has_place}
use Rattle.dep_manager.proofs.mark_sets.with_places.Given as goal

abbrev pub invariant-loop-place : goal.invariant-loop-place
invariant-loop-place l = (at : ℕ) → has_place l.places.keys at ≡ (has_place l.fn.before.keys at || has_place (take l.place-index l.more) at)
