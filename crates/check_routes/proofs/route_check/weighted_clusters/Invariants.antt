use Rattle.std.proofs.Common.{◌≡◌, ◌≢◌, [], drop, length}
use Rattle.std.specs.Prelude.{All}
use Rattle.check_routes.specs.RouteTable.{weighted_of}
use Rattle.check_steps.specs.TableSteps.{each}
use Rattle.check_steps.proofs.EachLemmas.{joined}
use Rattle.check_routes.proofs.route_check.weighted_clusters.Given as goal

abbrev pub invariant-loop-raw : goal.invariant-loop-raw
invariant-loop-raw l = record {
  value : joined l.clusters (each weighted_of (drop l.raw-index l.raws)) ≡ each weighted_of l.raws;
  named : All (λ w. w.cluster ≢ []) l.clusters;
  len : length l.clusters ≡ l.raw-index;
}
