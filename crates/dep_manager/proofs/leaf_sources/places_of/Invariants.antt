use Rattle.std.proofs.Common.{take}
use Rattle.dep_manager.specs.LeafPlaces.{ArePlacesOf}
use Rattle.dep_manager.proofs.leaf_sources.places_of.Given as goal

abbrev pub invariant-loop-place : goal.invariant-loop-place
invariant-loop-place l = ArePlacesOf (take l.place l.sources) l.places.entries
