-- The front: the listener, its routes, and the virtual host that is chosen (gRFC A27, A28, A74).
use Rattle.std.specs.Prelude.{◌≡◌, ◌⊎◌, ℕ, List, [], Option, Some, None, Result, Ok, Err}
use Rattle.std.specs.Option.{option_map_or}
use Rattle.xc_base.specs.declared.names.Kind.{Kind}
use Rattle.xc_base.specs.declared.reason.Reason.{Reason}
use Rattle.xds_config.specs.declared.value.Value.{Value}
use Rattle.xds_config.specs.declared.listener_values.RoutesFrom.{RoutesFrom}
use Rattle.xds_config.specs.declared.route_values.RouteValue.{RouteValue}
use Rattle.xds_config.specs.declared.config.Front.{Front}
use Rattle.xds_config.specs.Configs.{front_clusters}
use Rattle.route_match.specs.Domains.{host}
use Rattle.xds_cache.specs.declared.fate.Known.{Known}
use Rattle.config_assembly.specs.Orders.{Name}
use Rattle.config_assembly.specs.ReachedResources.{Resources}

-- what a key gives: nothing while it is wanted, else what its value gives, or the reason why it has none
abbrev pub given : Known → (Value → Option (Result Front Reason)) → Option (Result Front Reason)
given Known.Wanted from = None
given (Known.Value value) from = from value
given (Known.Invalid reason) from = Some (Err reason)
given Known.Absent from = Some (Err Reason.Absent)

-- a front of these routes, whose host is at this place
abbrev pub front_at : Name → RouteValue → ℕ → Front
front_at listener routes place = record { listener = listener; routes = routes; host = place }

abbrev pub front_of_host : Name → RouteValue → Option ℕ → Result Front Reason
front_of_host listener routes None = Err Reason.NoHost
front_of_host listener routes (Some place) = Ok (front_at listener routes place)

-- the virtual host is chosen for the channel's host text
abbrev pub front_of_routes : Resources → Name → RouteValue → Result Front Reason
front_of_routes r listener routes = front_of_host listener routes (host routes.hosts r.target.host)

abbrev pub front_of_route_value : Resources → Name → Value → Option (Result Front Reason)
front_of_route_value r listener (Value.Route routes) = Some (front_of_routes r listener routes)
front_of_route_value r listener _ = None

abbrev pub front_from : Resources → Name → RoutesFrom → Option (Result Front Reason)
front_from r listener (RoutesFrom.Inline routes) = Some (front_of_routes r listener routes)
front_from r listener (RoutesFrom.Named name) = given (r.fate (r.key Kind.Route name)) (front_of_route_value r listener)

abbrev pub front_of_listener : Resources → Value → Option (Result Front Reason)
front_of_listener r (Value.Listener listener) = front_from r listener.name listener.routes
front_of_listener r _ = None

-- the front, or the reason why there is none; nothing while it is awaited
abbrev pub front : Resources → Option (Result Front Reason)
front r = given (r.fate r.target.key) (front_of_listener r)

-- the Route resource that a listener names
abbrev pub named_in : RoutesFrom → Option Name
named_in (RoutesFrom.Inline routes) = None
named_in (RoutesFrom.Named name) = Some name

abbrev pub named_routes : Known → Option Name
named_routes (Known.Value (Value.Listener listener)) = named_in listener.routes
named_routes _ = None

-- the clusters that the host of a front names
abbrev pub names_of_front : Result Front Reason → List Name
names_of_front (Ok front) = front_clusters front
names_of_front (Err reason) = []

abbrev pub names_of : Option (Result Front Reason) → List Name
names_of found = option_map_or names_of_front found []

-- a Route resource is named and awaited
abbrev pub IsRouteAwaited : Resources → Option Name → Type 0
IsRouteAwaited r named = (name : Name) × (named ≡ Some name) × (r.fate (r.key Kind.Route name) ≡ Known.Wanted)

-- the listener is awaited, or the Route resource that it names
abbrev pub IsFrontAwaited : Resources → Type 0
IsFrontAwaited r = (r.fate r.target.key ≡ Known.Wanted) ⊎ IsRouteAwaited r (named_routes (r.fate r.target.key))
