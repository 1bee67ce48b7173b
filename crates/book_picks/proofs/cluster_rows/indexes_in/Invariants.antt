use Rattle.std.proofs.Common.{map, take}
use Rattle.book_picks.specs.CountedPlaces.{Extends}
use Rattle.book_picks.specs.ClusterRows.{AreIndexesOf, key_in}
use Rattle.book_picks.proofs.cluster_rows.indexes_in.Given as goal

abbrev pub invariant-loop-locality : goal.invariant-loop-locality
invariant-loop-locality l = record {
  extends : Extends l.fn.counts l.counts;
  indexes : AreIndexesOf l.counts l.indexes (map (λ r. key_in l.cluster l.child r.now.id) (take l.locality-index l.localities));
}
