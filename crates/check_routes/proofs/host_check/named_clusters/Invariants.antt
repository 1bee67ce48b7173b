use Rattle.std.proofs.Common.{◌≡◌, take}
use Rattle.std.specs.List.{flat_map}
use Rattle.xds_config.specs.RouteValues.{action_clusters}
use Rattle.check_routes.proofs.host_check.named_clusters.Given as goal

abbrev pub invariant-loop-route : goal.invariant-loop-route
invariant-loop-route l = l.names.items ≡ flat_map (λ r. action_clusters r.action) (take l.route-index l.routes)
