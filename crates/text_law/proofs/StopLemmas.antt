-- The checks of a resource stop at no pattern, or at one whose text is UTF-8.
use Rattle.std.proofs.Common.{rules, ◌≡◌, ℕ, ◌+◌, List, [], ◌∷◌, Bool, true, false, cond, Option, Some, None, Result, Ok, Err, refl, subst}
use Rattle.std.specs.Str.{IsUtf8}
use Rattle.xc_base.specs.declared.reason.Reason.{Reason}
use Rattle.check_steps.specs.declared.check_fault.Stop.{Stop}
use Rattle.check_steps.specs.declared.check_fault.Stop.TheVariants.{Because, Refused}
use Rattle.check_steps.specs.TableSteps.{◌>>=◌, demand, each, readable}
use Rattle.check_clusters.specs.ClusterTable.{aggregate_shape, cluster_value, eds_shape, shape_of}
use Rattle.check_steps.specs.Asking.{pattern_of}
use Rattle.check_steps.specs.CallFractions.{fraction_of, part_of, runtime_part}
use Rattle.check_steps.specs.ResourceNames.{required_name}
use Rattle.proto_cluster.specs.declared.cluster.RawCluster.{RawCluster}
use Rattle.proto_cluster.specs.declared.cluster.RawClusterType.{RawClusterType}
use Rattle.check_clusters.specs.Assignments.{address_in, addressed, assignment_value, drop_rule_of, endpoint_address, endpoint_in, locality_of, socket_address, stand_soundly}
use Rattle.check_routes.specs.RouteTable.{action_of, forward, host_of, kept_of, match_in, path_test, route_of, route_value, routes_from, split_of, weighted_of}
use Rattle.check_routes.specs.HeaderTable.{header_rule, header_test, pattern_test, string_test}
use Rattle.xc_base.specs.Addresses.{address_of}
use Rattle.proto_cluster.specs.declared.cluster.RawClusterOne.{RawClusterOne}
use Rattle.proto_cluster.specs.declared.cluster.RawClusterOne.TheVariants.{Discovery, ClusterType}
use Rattle.proto_cluster.specs.declared.assignment.RawDrop.{RawDrop}
use Rattle.proto_cluster.specs.declared.assignment.RawAssignment.{RawAssignment}
use Rattle.proto_cluster.specs.declared.endpoint.RawSocket.{RawSocket}
use Rattle.proto_cluster.specs.declared.endpoint.RawAddress.{RawAddress}
use Rattle.proto_cluster.specs.declared.endpoint.RawEndpoint.{RawEndpoint}
use Rattle.proto_cluster.specs.declared.endpoint.RawLbEndpoint.{RawLbEndpoint}
use Rattle.proto_cluster.specs.declared.locality.RawLocalityLbEndpoints.{RawLocalityLbEndpoints}
use Rattle.xds_config.specs.declared.endpoint_values.Locality.{Locality}
use Rattle.proto_route.specs.declared.route_match.RawRouteMatch.{RawRouteMatch}
use Rattle.proto_route.specs.declared.route_match.RawRouteMatchOne.{RawRouteMatchOne}
use Rattle.proto_route.specs.declared.route_match.RawRouteMatchOne.TheVariants as raw_test
use Rattle.proto_route.specs.declared.route_action.RawClusterWeight.{RawClusterWeight}
use Rattle.proto_route.specs.declared.route_action.RawRouteAction.{RawRouteAction}
use Rattle.proto_route.specs.declared.route_action.RawRouteActionOne.{RawRouteActionOne}
use Rattle.proto_route.specs.declared.route_action.RawRouteActionOne.TheVariants.{Cluster, ClusterHeader, WeightedClusters}
use Rattle.proto_route.specs.declared.routes.RawRoute.{RawRoute}
use Rattle.proto_route.specs.declared.routes.RawVirtualHost.{RawVirtualHost}
use Rattle.proto_route.specs.declared.routes.RawRoutes.{RawRoutes}
use Rattle.xds_config.specs.declared.route_values.Action.TheVariants.{To, Nothing}
use Rattle.proto_route.specs.declared.fractional_percent.RawFractionalPercent.{RawFractionalPercent}
use Rattle.proto_route.specs.declared.fractional_percent.RawRuntimeFractionalPercent.{RawRuntimeFractionalPercent}
use Rattle.proto_route.specs.declared.header_matcher.RawHeaderMatcher.{RawHeaderMatcher}
use Rattle.proto_route.specs.declared.header_matcher.RawHeaderMatcherOne.{RawHeaderMatcherOne}
use Rattle.proto_route.specs.declared.header_matcher.RawHeaderMatcherOne.TheVariants as header
use Rattle.proto_route.specs.declared.string_matcher.RawStringMatcherOne.{RawStringMatcherOne}
use Rattle.proto_route.specs.declared.string_matcher.RawStringMatcherOne.TheVariants as string

abbrev pub StopsAt : Stop → Type 0
StopsAt (Because reason) = Unit {0}
StopsAt (Refused text) = IsUtf8 text

-- a step that stops at no pattern, or at one that is UTF-8
pub record Stops {A : Type 0} (r : Result A Stop) : Type 0 where
  pub says : (stop : Stop) → r ≡ Err stop → StopsAt stop

pub stops_ok : {A : Type 0} (x : A) → Stops {A = A} (Ok x)
stops_ok x = record { says = λ stop is. absurd (cc is) }

pub stops_because : {A : Type 0} (reason : Reason) → Stops {A = A} (Err (Because reason))
stops_because reason = record { says = λ stop is. let same : Because reason ≡ stop = cc is in subst StopsAt same tt }

pub stops_then : {A B : Type 0} (r : Result A Stop) (f : A → Result B Stop) → Stops r → ((x : A) → Stops (f x)) → Stops (r >>= f)
stops_then (Ok x) f h k = k x
stops_then (Err stop) f h k = record { says = λ s is. let same : stop ≡ s = cc is in subst StopsAt same (h.says stop refl) }

pub stops_demand : (b : Bool) (reason : Reason) → Stops (demand b reason)
stops_demand true reason = stops_ok tt
stops_demand false reason = stops_because reason

pub stops_readable : {A : Type 0} (r : Result A ℕ) → Stops (readable r)
stops_readable (Ok x) = stops_ok x
stops_readable (Err at) = stops_because Reason.Unreadable

pub stops_if : {A : Type 0} (b : Bool) (x y : Result A Stop) → Stops x → Stops y → Stops (cond b x y)
stops_if true x y h k = h
stops_if false x y h k = k

pub stops_each : {X A : Type 0} (f : X → Result A Stop) (xs : List X) → ((x : X) → Stops (f x)) → Stops (each f xs)
unfolding each
stops_each f [] h = stops_ok []
stops_each f (x ∷ xs) h = stops_then (f x) (λ y. each f xs >>= λ ys. Ok (y ∷ ys)) (h x) (λ y. stops_then (each f xs) (λ ys. Ok (y ∷ ys)) (stops_each f xs h) (λ ys. stops_ok (y ∷ ys)))

pub stops_named : (text : List ℕ) → Stops (required_name text)
stops_named text = search (rules, stops_if, stops_because, stops_ok)

pub stops_aggregate : (raw : RawClusterType) → Stops (aggregate_shape raw)
unfolding aggregate_shape
stops_aggregate raw = search (stops_then, stops_demand, stops_readable, stops_each, stops_named, stops_ok) depth 25

pub stops_eds : (name : List ℕ) (raw : RawCluster) (n : ℕ) → Stops (eds_shape name raw n)
unfolding eds_shape
stops_eds name raw n = search (stops_then, stops_demand, stops_ok) depth 25

pub stops_shape : (name : List ℕ) (raw : RawCluster) (one : Option RawClusterOne) → Stops (shape_of name raw one)
stops_shape name raw None = stops_eds name raw 0
stops_shape name raw (Some (Discovery discovery)) = stops_eds name raw discovery
stops_shape name raw (Some (ClusterType cluster_type)) = stops_aggregate cluster_type

pub stops_cluster : (name : List ℕ) (raw : RawCluster) → Stops (cluster_value name raw)
unfolding cluster_value
stops_cluster name raw = search (stops_then, stops_shape, stops_ok) depth 25

-- ---- assignments

stops_fraction : (part : RawFractionalPercent) → Stops (fraction_of part)
stops_fraction part = search (stops_if, stops_ok, stops_because) depth 25

stops_part : (part : Option RawFractionalPercent) → Stops (part_of part)
stops_part None = stops_ok _
stops_part (Some part) = stops_fraction part

stops_runtime : (part : Option RawRuntimeFractionalPercent) → Stops (runtime_part part)
stops_runtime None = stops_ok None
stops_runtime (Some part) = stops_then (part_of part.default_value) (λ x. Ok (Some x)) (stops_part part.default_value) (λ x. stops_ok (Some x))

stops_drop : (drop : RawDrop) → Stops (drop_rule_of drop)
unfolding drop_rule_of
stops_drop drop = search (stops_then, stops_part, stops_ok) depth 25

stops_addressed : (found : Option (List ℕ)) → Stops (addressed found)
stops_addressed None = stops_because Reason.Address
stops_addressed (Some address) = stops_ok address

stops_socket : (found : Option RawSocket) → Stops (socket_address found)
stops_socket None = stops_because Reason.Address
stops_socket (Some socket) = stops_addressed (address_of socket.address socket.port_value)

stops_address : (found : Option RawAddress) → Stops (address_in found)
stops_address None = stops_because Reason.Address
stops_address (Some address) = stops_socket address.socket_address

stops_endpoint : (found : Option RawEndpoint) → Stops (endpoint_in found)
stops_endpoint None = stops_because Reason.Address
stops_endpoint (Some endpoint) = stops_address endpoint.address

stops_lb : (e : RawLbEndpoint) → Stops (endpoint_address e)
stops_lb e = stops_endpoint e.endpoint

stops_locality : (l : RawLocalityLbEndpoints) → Stops (locality_of l)
unfolding locality_of
stops_locality l = search (stops_then, stops_each, stops_lb, stops_ok) depth 25

stops_soundly : (localities : List Locality) → Stops (stand_soundly localities)
unfolding stand_soundly
stops_soundly localities = search (stops_then, stops_demand) depth 25

pub stops_assignment : (name : List ℕ) (raw : RawAssignment) → Stops (assignment_value name raw)
unfolding assignment_value
stops_assignment name raw = search (stops_then, stops_each, stops_drop, stops_locality, stops_soundly, stops_ok) depth 25

-- ---- actions of routes

stops_weighted : (raw : RawClusterWeight) → Stops (weighted_of raw)
unfolding weighted_of
stops_weighted raw = search (stops_then, stops_named, stops_ok) depth 25

stops_split : (raws : List RawClusterWeight) → Stops (split_of raws)
unfolding split_of
stops_split raws = search (stops_then, stops_each, stops_weighted, stops_demand, stops_ok) depth 25

stops_forward : (one : Option RawRouteActionOne) → Stops (forward one)
stops_forward None = stops_ok Nothing
stops_forward (Some (Cluster name)) = stops_then (required_name name) (λ cluster. Ok (To (record { cluster = cluster; weight = 1 } ∷ []))) (stops_named name) (λ cluster. stops_ok _)
stops_forward (Some (ClusterHeader name)) = stops_ok Nothing
stops_forward (Some (WeightedClusters clusters)) = stops_split clusters.clusters

pub stops_action : (action : Option RawRouteAction) → Stops (action_of action)
stops_action None = stops_ok Nothing
stops_action (Some action) = stops_forward action.one

-- ---- patterns

pub stops_pattern : (refuses : List ℕ → Bool) (pattern : List ℕ) → IsUtf8 pattern → Stops (pattern_of refuses pattern)
stops_pattern refuses pattern h = stops_if (refuses pattern) (Err (Refused pattern)) (Ok pattern)
    (record { says = λ stop is. let same : Refused pattern ≡ stop = cc is in subst StopsAt same h }) (stops_ok pattern)

-- what each raw message has of patterns is UTF-8
abbrev pub StringUtf8 : Option RawStringMatcherOne → Type 0
StringUtf8 (Some (string.SafeRegex pattern)) = IsUtf8 pattern.regex
StringUtf8 _ = Unit {0}

abbrev pub HeaderUtf8 : Option RawHeaderMatcherOne → Type 0
HeaderUtf8 (Some (header.SafeRegexMatch pattern)) = IsUtf8 pattern.regex
HeaderUtf8 (Some (header.StringMatch string)) = StringUtf8 string.one
HeaderUtf8 _ = Unit {0}

abbrev pub PathUtf8 : Option RawRouteMatchOne → Type 0
PathUtf8 (Some (raw_test.SafeRegex pattern)) = IsUtf8 pattern.regex
PathUtf8 _ = Unit {0}

-- each of a list, and one that is there
abbrev pub Each : {X : Type 0} → (X → Type 0) → List X → Type 0
Each P [] = Unit {0}
Each P (x ∷ xs) = P x × Each P xs

abbrev pub Maybe : {X : Type 0} → (X → Type 0) → Option X → Type 0
Maybe P None = Unit {0}
Maybe P (Some x) = P x

abbrev pub MatcherUtf8 : RawHeaderMatcher → Type 0
MatcherUtf8 raw = HeaderUtf8 raw.one

abbrev pub MatchUtf8 : RawRouteMatch → Type 0
MatchUtf8 m = PathUtf8 m.one × Each MatcherUtf8 m.headers

abbrev pub RouteUtf8 : RawRoute → Type 0
RouteUtf8 raw = Maybe MatchUtf8 raw.match_

abbrev pub HostUtf8 : RawVirtualHost → Type 0
HostUtf8 raw = Each RouteUtf8 raw.routes

abbrev pub RoutesUtf8 : RawRoutes → Type 0
RoutesUtf8 raw = Each HostUtf8 raw.virtual_hosts

stops_test : (refuses : List ℕ → Bool) (pattern : List ℕ) → IsUtf8 pattern → Stops (pattern_test refuses pattern)
stops_test refuses pattern h = search (stops_then, stops_pattern, stops_ok) depth 25

stops_string : (refuses : List ℕ → Bool) (b : Bool) (one : Option RawStringMatcherOne) → StringUtf8 one → Stops (string_test refuses b one)
stops_string refuses b None h = stops_because Reason.NoHeaderMatch
stops_string refuses b (Some (string.Exact t)) h = stops_ok _
stops_string refuses b (Some (string.Prefix t)) h = stops_ok _
stops_string refuses b (Some (string.Suffix t)) h = stops_ok _
stops_string refuses b (Some (string.SafeRegex pattern)) h = stops_test refuses pattern.regex h
stops_string refuses b (Some (string.Contains t)) h = stops_ok _

stops_header : (refuses : List ℕ → Bool) (one : Option RawHeaderMatcherOne) → HeaderUtf8 one → Stops (header_test refuses one)
stops_header refuses None h = stops_because Reason.NoHeaderMatch
stops_header refuses (Some (header.ExactMatch t)) h = stops_ok _
stops_header refuses (Some (header.RangeMatch range)) h = stops_ok _
stops_header refuses (Some (header.PresentMatch b)) h = stops_ok _
stops_header refuses (Some (header.PrefixMatch t)) h = stops_ok _
stops_header refuses (Some (header.SuffixMatch t)) h = stops_ok _
stops_header refuses (Some (header.SafeRegexMatch pattern)) h = stops_test refuses pattern.regex h
stops_header refuses (Some (header.ContainsMatch t)) h = stops_ok _
stops_header refuses (Some (header.StringMatch raw)) h = stops_string refuses raw.ignore_case raw.one h

stops_rule : (refuses : List ℕ → Bool) (raw : RawHeaderMatcher) → MatcherUtf8 raw → Stops (header_rule refuses raw)
unfolding header_rule
stops_rule refuses raw h = search (h, stops_then, stops_header, stops_ok) depth 25

stops_path : (refuses : List ℕ → Bool) (b : Bool) (one : Option RawRouteMatchOne) → PathUtf8 one → Stops (path_test refuses b one)
stops_path refuses b None h = stops_because Reason.NoPath
stops_path refuses b (Some (raw_test.Prefix t)) h = stops_ok _
stops_path refuses b (Some (raw_test.Path t)) h = stops_ok _
stops_path refuses b (Some (raw_test.SafeRegex pattern)) h = search (h, stops_then, stops_pattern, stops_ok) depth 25

stops_each_of : {X A : Type 0} (P : X → Type 0) (f : X → Result A Stop) (xs : List X) → Each P xs → ((x : X) → P x → Stops (f x)) → Stops (each f xs)
unfolding each
stops_each_of P f [] all h = stops_ok []
stops_each_of P f (x ∷ xs) all h =
    stops_then (f x) (λ y. each f xs >>= λ ys. Ok (y ∷ ys)) (h x all.0) (λ y. stops_then (each f xs) (λ ys. Ok (y ∷ ys)) (stops_each_of P f xs all.1 h) (λ ys. stops_ok (y ∷ ys)))

stops_rules : (refuses : List ℕ → Bool) (raws : List RawHeaderMatcher) → Each MatcherUtf8 raws → Stops (each (header_rule refuses) raws)
stops_rules refuses raws h = stops_each_of MatcherUtf8 (header_rule refuses) raws h (stops_rule refuses)

stops_match : {A : Type 0} (found : Option RawRouteMatch) (f : RawRouteMatch → Result A Stop) → Maybe MatchUtf8 found → ((m : RawRouteMatch) → PathUtf8 m.one → Each MatcherUtf8 m.headers → Stops (f m)) → Stops (match_in found >>= f)
stops_match None f h k = stops_because Reason.NoPath
stops_match (Some m) f h k = k m h.0 h.1

stops_route : (refuses : List ℕ → Bool) (place : ℕ) (raw : RawRoute) → RouteUtf8 raw → Stops (route_of refuses place raw)
unfolding route_of
stops_route refuses place raw h = search (h, stops_match, stops_then, stops_path, stops_rules, stops_runtime, stops_action, stops_ok) depth 25

stops_kept : (refuses : List ℕ → Bool) (place : ℕ) (raw : RawRoute) → RouteUtf8 raw → Stops (kept_of refuses place raw)
unfolding kept_of
stops_kept refuses place raw h = search (h, stops_if, stops_then, stops_route, stops_ok) depth 25

stops_routes : (refuses : List ℕ → Bool) (place : ℕ) (raws : List RawRoute) → Each RouteUtf8 raws → Stops (routes_from refuses place raws)
unfolding routes_from
stops_routes refuses place [] h = stops_ok []
stops_routes refuses place (raw ∷ raws) h =
    let first = stops_kept refuses place raw h.0 in
    let more = stops_routes refuses (place + 1) raws h.1 in
    search (first, more, stops_then, stops_ok) depth 25

stops_host : (refuses : List ℕ → Bool) (raw : RawVirtualHost) → HostUtf8 raw → Stops (host_of refuses raw)
unfolding host_of
stops_host refuses raw h = search (h, stops_then, stops_demand, stops_routes, stops_ok) depth 25

pub stops_value : (refuses : List ℕ → Bool) (name : List ℕ) (raw : RawRoutes) → RoutesUtf8 raw → Stops (route_value refuses name raw)
unfolding route_value
stops_value refuses name raw h =
    let hosts = stops_each_of HostUtf8 (host_of refuses) raw.virtual_hosts h (stops_host refuses) in
    search (hosts, stops_then, stops_ok) depth 25
