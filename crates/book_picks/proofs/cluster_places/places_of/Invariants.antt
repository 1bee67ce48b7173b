use Rattle.book_picks.proofs.NamedPlaces.{ArePlacesTo}
use Rattle.book_picks.proofs.cluster_places.places_of.Given as goal

abbrev pub invariant-loop-place : goal.invariant-loop-place
invariant-loop-place l = ArePlacesTo l.place l.clusters l.places.entries
