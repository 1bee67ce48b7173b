-- Which types of `xds_config` that hold a pattern may cross threads.
use denote.Param.Send.{IsSend, IsSync, sendable}
use denote.Param.SendFields.{declared_send, declared_sync, variants_send, variants_sync}
use Rattle.std.proofs.Crossing.{crosses}
use Rattle.channel_crossing.proofs.HeaderMatch.{pattern_send, pattern_sync, header_rule_send, header_rule_sync}
use Rattle.weight_pick.proofs.fraction.Fraction.TheSendSync.{the_send as fraction_send, the_sync as fraction_sync}
use Rattle.xc_base.proofs.list.List.TheSendSync.{the_send as list_send, the_sync as list_sync}
use Rattle.xc_base.proofs.reason.Reason.TheSendSync.{the_send as reason_send, the_sync as reason_sync}
use Rattle.xc_base.proofs.shared.Shared.TheSendSync.{the_send as shared_send, the_sync as shared_sync}
use Rattle.xc_base.proofs.text.Text.TheSendSync.{the_send as text_send, the_sync as text_sync}
use Rattle.xds_config.proofs.cluster_values.ClusterValue.TheSendSync.{the_send as cluster_value_send, the_sync as cluster_value_sync}
use Rattle.xds_config.proofs.endpoint_values.EndpointValue.TheSendSync.{the_send as endpoint_value_send, the_sync as endpoint_value_sync}
use Rattle.xds_config.proofs.ordered_clusters.Clusters.TheSendSync.{the_send as clusters_send, the_sync as clusters_sync}
use Rattle.xds_config.proofs.route_values.Action.TheSendSync.{the_send as action_send, the_sync as action_sync}
use Rattle.xds_config.specs.contracts.route_values.PathTest as PathTest
use Rattle.xds_config.specs.contracts.route_values.Route as Route
use Rattle.xds_config.specs.contracts.ordered_routes.Routes as Routes
use Rattle.xds_config.specs.contracts.ordered_routes.Routes.TheInside as RoutesInside
use Rattle.xds_config.specs.contracts.route_values.Host as Host
use Rattle.xds_config.specs.contracts.route_values.RouteValue as RouteValue
use Rattle.xds_config.specs.contracts.config.Front as Front
use Rattle.xds_config.specs.contracts.config.Config as Config
use Rattle.xds_config.specs.contracts.listener_values.RoutesFrom as RoutesFrom
use Rattle.xds_config.specs.contracts.listener_values.ListenerValue as ListenerValue
use Rattle.xds_config.specs.contracts.value.Value as Value

pub path_test_send : IsSend PathTest.the_row
path_test_send = variants_send PathTest.enum (search (sendable, crosses, text_send, pattern_send) depth 30 steps 3000000)

pub path_test_sync : IsSync PathTest.the_row
path_test_sync = variants_sync PathTest.enum (search (sendable, crosses, text_sync, pattern_sync) depth 30 steps 3000000)

pub route_send : IsSend Route.the_row
route_send = declared_send Route.the_type (search (sendable, crosses, path_test_send, list_send, header_rule_send, fraction_send, action_send) depth 30 steps 3000000)

pub route_sync : IsSync Route.the_row
route_sync = declared_sync Route.the_type (search (sendable, crosses, path_test_sync, list_sync, header_rule_sync, fraction_sync, action_sync) depth 30 steps 3000000)

pub routes_send : IsSend Routes.the_row
routes_send =
    let inside : IsSend RoutesInside.the_row = declared_send RoutesInside.the_type (search (sendable, crosses, list_send, route_send) depth 30 steps 3000000) in
    search (sendable, inside) depth 6 steps 300000

pub routes_sync : IsSync Routes.the_row
routes_sync =
    let inside : IsSync RoutesInside.the_row = declared_sync RoutesInside.the_type (search (sendable, crosses, list_sync, route_sync) depth 30 steps 3000000) in
    search (sendable, inside) depth 6 steps 300000

pub host_send : IsSend Host.the_row
host_send = declared_send Host.the_type (search (sendable, crosses, text_send, list_send, routes_send) depth 30 steps 3000000)

pub host_sync : IsSync Host.the_row
host_sync = declared_sync Host.the_type (search (sendable, crosses, text_sync, list_sync, routes_sync) depth 30 steps 3000000)

pub route_value_send : IsSend RouteValue.the_row
route_value_send = declared_send RouteValue.the_type (search (sendable, crosses, text_send, list_send, host_send) depth 30 steps 3000000)

pub route_value_sync : IsSync RouteValue.the_row
route_value_sync = declared_sync RouteValue.the_type (search (sendable, crosses, text_sync, list_sync, host_sync) depth 30 steps 3000000)

pub front_send : IsSend Front.the_row
front_send = declared_send Front.the_type (search (sendable, crosses, text_send, shared_send, route_value_send, route_value_sync) depth 30 steps 3000000)

pub front_sync : IsSync Front.the_row
front_sync = declared_sync Front.the_type (search (sendable, crosses, text_sync, shared_sync, route_value_send, route_value_sync) depth 30 steps 3000000)

pub config_send : IsSend Config.the_row
config_send = declared_send Config.the_type (search (sendable, crosses, front_send, reason_send, clusters_send) depth 30 steps 3000000)

pub config_sync : IsSync Config.the_row
config_sync = declared_sync Config.the_type (search (sendable, crosses, front_sync, reason_sync, clusters_sync) depth 30 steps 3000000)

pub routes_from_send : IsSend RoutesFrom.the_row
routes_from_send = variants_send RoutesFrom.enum (search (sendable, crosses, shared_send, route_value_send, route_value_sync, text_send) depth 30 steps 3000000)

pub routes_from_sync : IsSync RoutesFrom.the_row
routes_from_sync = variants_sync RoutesFrom.enum (search (sendable, crosses, shared_sync, route_value_send, route_value_sync, text_sync) depth 30 steps 3000000)

pub listener_value_send : IsSend ListenerValue.the_row
listener_value_send = declared_send ListenerValue.the_type (search (sendable, crosses, text_send, routes_from_send) depth 30 steps 3000000)

pub listener_value_sync : IsSync ListenerValue.the_row
listener_value_sync = declared_sync ListenerValue.the_type (search (sendable, crosses, text_sync, routes_from_sync) depth 30 steps 3000000)

pub value_send : IsSend Value.the_row
value_send = variants_send Value.enum (search (sendable, crosses, shared_send, listener_value_send, listener_value_sync, route_value_send, route_value_sync, cluster_value_send, cluster_value_sync, endpoint_value_send, endpoint_value_sync) depth 30 steps 3000000)
