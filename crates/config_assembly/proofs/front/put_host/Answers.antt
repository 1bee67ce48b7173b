use Rattle.xds_config.specs.RouteValues.{action_clusters}
use Rattle.config_assembly.specs.Orders.{name_cmp}
use Rattle.config_assembly.proofs.OrderLemmas.{put_next}
use Rattle.config_assembly.proofs.front.put_host.Goals as goal

pub loop-route-preserved : goal.loop-route-preserved
loop-route-preserved c =
    put_next name_cmp (λ r. action_clusters r.action) c.as_slice-route-items.result.now c.loop-route.route-index c.route-item.result c.loop-route.names.keys c.put_action.new.names.keys _ c.loop-route-test.true c.route-item.is c.in_ok-put_action.ensures c.loop-route.invariant
