-- The checks of a RouteConfiguration (gRFC A28, Envoy's route API), virtual host by virtual host and route by route.
-- `refuses` tells which texts are refused as patterns.
use Rattle.std.specs.Prelude.{ℕ, ◌+◌, ◌^◌, List, [], ◌∷◌, length, reverse, sum, Bool, true, false, not, ◌&&◌, ◌||◌, nat_lt, nat_le, bytes_eq, if◌then◌else◌, Option, Some, None, unwrap_or, Result, Ok, Err}
use Rattle.std.specs.List.{cons_option, list_all, list_any}
use Rattle.xc_base.specs.declared.reason.Reason.TheVariants as reason
use Rattle.proto_route.specs.declared.route_match.RawRouteMatch.{RawRouteMatch}
use Rattle.proto_route.specs.declared.route_match.RawRouteMatchOne.{RawRouteMatchOne}
use Rattle.proto_route.specs.declared.route_match.RawRouteMatchOne.TheVariants as raw_test
use Rattle.proto_route.specs.declared.route_action.RawClusterWeight.{RawClusterWeight}
use Rattle.proto_route.specs.declared.route_action.RawRouteAction.{RawRouteAction}
use Rattle.proto_route.specs.declared.route_action.RawRouteActionOne.{RawRouteActionOne}
use Rattle.proto_route.specs.declared.route_action.RawRouteActionOne.TheVariants.{Cluster, ClusterHeader, WeightedClusters}
use Rattle.proto_route.specs.declared.routes.RawRoute.{RawRoute}
use Rattle.proto_route.specs.declared.routes.RawVirtualHost.{RawVirtualHost}
use Rattle.proto_route.specs.declared.routes.RawRoutes.{RawRoutes}
use Rattle.xds_config.specs.declared.route_values.RouteValue.{RouteValue}
use Rattle.xds_config.specs.declared.route_values.Host.{Host}
use Rattle.xds_config.specs.declared.route_values.Route.{Route}
use Rattle.xds_config.specs.declared.route_values.PathTest.{PathTest}
use Rattle.xds_config.specs.declared.route_values.PathTest.TheVariants.{Prefix, Whole, Pattern}
use Rattle.xds_config.specs.declared.route_values.Weighted.{Weighted}
use Rattle.xds_config.specs.declared.route_values.Action.{Action}
use Rattle.xds_config.specs.declared.route_values.Action.TheVariants.{To, Nothing}
use Rattle.xds_config.specs.RouteValues.{host_clusters, is_domain, weights_of}
use Rattle.check_steps.specs.declared.check_fault.Stop.{Stop}
use Rattle.check_steps.specs.declared.check_fault.Stop.TheVariants.{Because}
use Rattle.check_steps.specs.CallFractions.{runtime_part}
use Rattle.check_routes.specs.HeaderTable.{header_rule}
use Rattle.check_steps.specs.Asking.{pattern_of}
use Rattle.check_steps.specs.ResourceNames.{is_nothing, required_name}
use Rattle.check_steps.specs.TableSteps.{◌>>=◌, demand, each}

-- ---- routes that are left out, unchecked

abbrev pub has_query : Option RawRouteMatch → Bool
has_query None = false
has_query (Some m) = not (is_nothing m.query_parameters)

-- neither cluster nor weighted_clusters is set
abbrev pub names_none : Option RawRouteActionOne → Bool
names_none None = true
names_none (Some (Cluster name)) = false
names_none (Some (ClusterHeader name)) = true
names_none (Some (WeightedClusters clusters)) = false

abbrev pub leads_elsewhere : Option RawRouteAction → Bool
leads_elsewhere None = false
leads_elsewhere (Some action) = names_none action.one

abbrev pub is_left_out : RawRoute → Bool
is_left_out r = has_query r.match_ || leads_elsewhere r.route

-- ---- the steps of a route

-- the test of a path; case_sensitive is true where it is absent
abbrev pub path_test : (List ℕ → Bool) → Bool → Option RawRouteMatchOne → Result PathTest Stop
path_test refuses case None = Err (Because reason.NoPath)
path_test refuses case (Some (raw_test.Prefix text)) = Ok (Prefix text case)
path_test refuses case (Some (raw_test.Path text)) = Ok (Whole text case)
path_test refuses case (Some (raw_test.SafeRegex pattern)) = pattern_of refuses pattern.regex >>= λ built. Ok (Pattern built)

-- an absent match has no path test
abbrev pub match_in : Option RawRouteMatch → Result RawRouteMatch Stop
match_in None = Err (Because reason.NoPath)
match_in (Some m) = Ok m

unfoldable pub weighted_of : RawClusterWeight → Result Weighted Stop
weighted_of raw = required_name raw.name >>= λ cluster. Ok record { cluster = cluster; weight = unwrap_or raw.weight 0 }

-- weights sum to 1 to 4,294,967,295
abbrev pub can_be_chosen : List Weighted → Bool
can_be_chosen clusters = nat_lt 0 (sum (weights_of clusters)) && nat_lt (sum (weights_of clusters)) (2 ^ 32)

unfoldable pub split_of : List RawClusterWeight → Result Action Stop
split_of raws = do
  clusters ← each weighted_of raws
  some ← demand (can_be_chosen clusters) reason.Weights
  Ok (To clusters)

-- a single cluster has weight 1; routes whose action names none are left out before
abbrev pub forward : Option RawRouteActionOne → Result Action Stop
forward None = Ok Nothing
forward (Some (Cluster name)) = required_name name >>= λ cluster. Ok (To (record { cluster = cluster; weight = 1 } ∷ []))
forward (Some (ClusterHeader name)) = Ok Nothing
forward (Some (WeightedClusters clusters)) = split_of clusters.clusters

-- a route without the field route gives no action
abbrev pub action_of : Option RawRouteAction → Result Action Stop
action_of None = Ok Nothing
action_of (Some action) = forward action.one

unfoldable pub route_of : (List ℕ → Bool) → ℕ → RawRoute → Result Route Stop
route_of refuses place raw = do
  m ← match_in raw.match_
  path ← path_test refuses (unwrap_or m.case_sensitive true) m.one
  headers ← each (header_rule refuses) m.headers
  fraction ← runtime_part m.runtime_fraction
  action ← action_of raw.route
  Ok record { place = place; path = path; headers = headers; fraction = fraction; action = action }

-- none for a route that is left out
unfoldable pub kept_of : (List ℕ → Bool) → ℕ → RawRoute → Result (Option Route) Stop
kept_of refuses place raw = if is_left_out raw then Ok None else (route_of refuses place raw >>= λ route. Ok (Some route))

-- the routes that aren't left out, of which the first of the list has this place
unfoldable pub routes_from : (List ℕ → Bool) → ℕ → List RawRoute → Result (List Route) Stop
routes_from refuses place [] = Ok []
routes_from refuses place (r ∷ rs) = do
  kept ← kept_of refuses place r
  routes ← routes_from refuses (place + 1) rs
  Ok (cons_option kept routes)

-- ---- the steps of a virtual host

abbrev pub is_among : List ℕ → List (List ℕ) → Bool
is_among name names = list_any (λ n. bytes_eq n name) names

-- the names, each once
abbrev pub different : List (List ℕ) → List (List ℕ)
different [] = []
different (name ∷ names) = if is_among name names then different names else name ∷ different names

abbrev pub host_with : RawVirtualHost → List Route → Host
host_with raw routes = record { name = raw.name; domains = raw.domains; routes = routes }

-- at most 1,024 different clusters, those of weight 0 among them
abbrev pub names_few : Host → Bool
names_few host = nat_le (length (different (reverse (host_clusters host)))) 1024

unfoldable pub host_of : (List ℕ → Bool) → RawVirtualHost → Result Host Stop
host_of refuses raw = do
  sound ← demand (list_all is_domain raw.domains) reason.Domain
  routes ← routes_from refuses 0 raw.routes
  few ← demand (names_few (host_with raw routes)) reason.ManyClusters
  Ok (host_with raw routes)

-- ---- the whole

unfoldable pub route_value : (List ℕ → Bool) → List ℕ → RawRoutes → Result RouteValue Stop
route_value refuses name raw = do
  hosts ← each (host_of refuses) raw.virtual_hosts
  Ok record { name = name; hosts = hosts }
