-- The checks of a Listener (gRFC A27, Envoy's Listener and HttpConnectionManager). `refuses` tells which texts are refused
-- as patterns.
use Rattle.std.specs.Prelude.{ℕ, List, Bool, bytes_eq, Option, Some, None, Result, Ok, Err}
use Rattle.xc_base.specs.declared.reason.Reason.TheVariants as reason
use Rattle.proto_discovery.specs.TypeUrls.{manager_url}
use Rattle.proto_discovery.specs.declared.any.AnyValue.{AnyValue}
use Rattle.proto_listener.specs.Manager.{manager_of}
use Rattle.proto_listener.specs.declared.listener.RawListener.{RawListener}
use Rattle.proto_listener.specs.declared.listener.RawApiListener.{RawApiListener}
use Rattle.proto_listener.specs.declared.manager.RawRds.{RawRds}
use Rattle.proto_listener.specs.declared.manager.RawManager.{RawManager}
use Rattle.proto_listener.specs.declared.manager.RawManagerOne.{RawManagerOne}
use Rattle.proto_listener.specs.declared.manager.RawManagerOne.TheVariants.{Rds, RouteConfig}
use Rattle.xds_config.specs.declared.listener_values.ListenerValue.{ListenerValue}
use Rattle.xds_config.specs.declared.listener_values.RoutesFrom.{RoutesFrom}
use Rattle.xds_config.specs.declared.listener_values.RoutesFrom.TheVariants.{Inline, Named}
use Rattle.xds_name.specs.Names.{canonical_of}
use Rattle.check_steps.specs.declared.check_fault.Stop.{Stop}
use Rattle.check_steps.specs.declared.check_fault.Stop.TheVariants.{Because}
use Rattle.check_steps.specs.Sources.{is_sourced}
use Rattle.check_steps.specs.ResourceNames.{required_name}
use Rattle.check_routes.specs.RouteTable.{route_value}
use Rattle.check_steps.specs.TableSteps.{◌>>=◌, demand, readable}

abbrev pub any_there : Option AnyValue → Result AnyValue Stop
any_there None = Err (Because reason.NoRoutes)
any_there (Some any) = Ok any

abbrev pub any_in : Option RawApiListener → Result AnyValue Stop
any_in None = Err (Because reason.NoRoutes)
any_in (Some api) = any_there api.api_listener

-- routes that are a resource of their own
unfoldable pub named_routes : RawRds → Result RoutesFrom Stop
named_routes rds = do
  sourced ← demand (is_sourced rds.config_source) reason.ConfigSource
  name ← required_name rds.route_config_name
  Ok (Named name)

-- routes that stand in the listener may have no name
abbrev pub routes_of : (List ℕ → Bool) → Option RawManagerOne → Result RoutesFrom Stop
routes_of refuses None = Err (Because reason.NoRoutes)
routes_of refuses (Some (Rds rds)) = named_routes rds
routes_of refuses (Some (RouteConfig raw)) = route_value refuses (canonical_of raw.name) raw >>= λ routes. Ok (Inline routes)

-- the connection manager is there, has its type, and is read
unfoldable pub manager_in : RawListener → Result RawManager Stop
manager_in raw = do
  any ← any_in raw.api_listener
  typed ← demand (bytes_eq any.type_url manager_url) reason.WrongType
  readable (manager_of any.value)

unfoldable pub listener_value : (List ℕ → Bool) → List ℕ → RawListener → Result ListenerValue Stop
listener_value refuses name raw = do
  manager ← manager_in raw
  routes ← routes_of refuses manager.one
  Ok record { name = name; routes = routes }
