use Rattle.std.proofs.Common.{◌≡◌, ◌++◌, map, drop}
use Rattle.book_calls.proofs.host_clusters.add_clusters.Given as goal

abbrev pub invariant-loop-weighted : goal.invariant-loop-weighted
invariant-loop-weighted l = l.names ++ map (λ c. c.cluster) (drop l.weighted-index l.clusters) ≡ l.fn.names ++ map (λ c. c.cluster) l.clusters
