use Rattle.std.proofs.Common.{◌≡◌, ◌++◌, drop}
use Rattle.std.specs.List.{flat_map}
use Rattle.xds_config.specs.RouteValues.{action_clusters}
use Rattle.book_calls.proofs.host_clusters.host_clusters.Given as goal

abbrev pub invariant-loop-route : goal.invariant-loop-route
invariant-loop-route l = l.names ++ flat_map (λ r. action_clusters r.action) (drop l.route-index l.route-items) ≡ flat_map (λ r. action_clusters r.action) l.route-items
