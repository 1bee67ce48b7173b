use Rattle.std.proofs.Common.{◌≡◌, take}
use Rattle.check_clusters.specs.declared.localities.Place.{Place}
use Rattle.check_clusters.proofs.OnceLemmas.{AreApart, is_held, is_taken}
use Rattle.check_clusters.proofs.localities.stand_once.Given as goal

abbrev pub invariant-loop-locality : goal.invariant-loop-locality
invariant-loop-locality l = record {
  held : (p : Place) → is_held l.places.keys p ≡ is_taken (take l.locality-index l.localities) p;
  apart : AreApart (take l.locality-index l.localities);
}
