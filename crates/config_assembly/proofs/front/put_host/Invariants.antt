use Rattle.std.proofs.Common.{◌≡◌, drop}
use Rattle.std.specs.List.{flat_map}
use Rattle.xds_config.specs.RouteValues.{action_clusters}
use Rattle.config_assembly.specs.Orders.{name_cmp, put_in}
use Rattle.config_assembly.proofs.front.put_host.Given as goal

abbrev pub invariant-loop-route : goal.invariant-loop-route
invariant-loop-route l = put_in name_cmp l.names.keys (flat_map (λ r. action_clusters r.action) (drop l.route-index l.route-items)) ≡ put_in name_cmp l.fn.names.keys (flat_map (λ r. action_clusters r.action) l.route-items)
