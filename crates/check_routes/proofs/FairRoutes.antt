-- The check of a listener or of routes that stops at a text stops at one that is refused.
use Rattle.std.proofs.Common.{ℕ, ◌+◌, List, [], ◌∷◌, Bool, true, Option, Some, None}
use Rattle.std.specs.Prelude.{bytes_eq, unwrap_or, Ok}
use Rattle.std.specs.List.{list_all}
use Rattle.xc_base.specs.declared.reason.Reason.TheVariants as reason
use Rattle.proto_discovery.specs.declared.any.AnyValue.{AnyValue}
use Rattle.proto_discovery.specs.TypeUrls.{manager_url}
use Rattle.proto_listener.specs.Manager.{manager_of}
use Rattle.proto_listener.specs.declared.listener.RawListener.{RawListener}
use Rattle.proto_listener.specs.declared.listener.RawApiListener.{RawApiListener}
use Rattle.proto_listener.specs.declared.manager.RawRds.{RawRds}
use Rattle.proto_listener.specs.declared.manager.RawManagerOne.{RawManagerOne}
use Rattle.proto_listener.specs.declared.manager.RawManagerOne.TheVariants.{Rds, RouteConfig}
use Rattle.proto_route.specs.declared.header_matcher.RawHeaderMatcher.{RawHeaderMatcher}
use Rattle.proto_route.specs.declared.header_matcher.RawHeaderMatcherOne.{RawHeaderMatcherOne}
use Rattle.proto_route.specs.declared.header_matcher.RawHeaderMatcherOne.TheVariants as header
use Rattle.proto_route.specs.declared.string_matcher.RawStringMatcherOne.{RawStringMatcherOne}
use Rattle.proto_route.specs.declared.string_matcher.RawStringMatcherOne.TheVariants as string
use Rattle.proto_route.specs.declared.route_match.RawRouteMatch.{RawRouteMatch}
use Rattle.proto_route.specs.declared.route_match.RawRouteMatchOne.{RawRouteMatchOne}
use Rattle.proto_route.specs.declared.route_match.RawRouteMatchOne.TheVariants as path
use Rattle.proto_route.specs.declared.route_action.RawClusterWeight.{RawClusterWeight}
use Rattle.proto_route.specs.declared.route_action.RawRouteAction.{RawRouteAction}
use Rattle.proto_route.specs.declared.route_action.RawRouteActionOne.{RawRouteActionOne}
use Rattle.proto_route.specs.declared.route_action.RawRouteActionOne.TheVariants.{Cluster, ClusterHeader, WeightedClusters}
use Rattle.proto_route.specs.declared.routes.RawRoute.{RawRoute}
use Rattle.proto_route.specs.declared.routes.RawVirtualHost.{RawVirtualHost}
use Rattle.proto_route.specs.declared.routes.RawRoutes.{RawRoutes}
use Rattle.header_match.specs.declared.rule.HeaderTest.TheVariants as test
use Rattle.xds_config.specs.RouteValues.{is_domain}
use Rattle.xds_name.specs.Names.{canonical_of}
use Rattle.check_steps.specs.Asking.{pattern_of}
use Rattle.check_steps.specs.CallFractions.{runtime_part}
use Rattle.check_steps.specs.ResourceNames.{required_name}
use Rattle.check_steps.specs.Sources.{is_sourced}
use Rattle.check_steps.specs.TableSteps.{demand, each}
use Rattle.check_steps.proofs.FairLemmas.{IsFair, fair_demand, fair_each, fair_if, fair_name, fair_pattern, fair_readable, fair_runtime, fair_then}
use Rattle.check_routes.specs.HeaderTable.{header_rule, header_test, pattern_test, string_test}
use Rattle.check_routes.specs.RouteTable.{action_of, can_be_chosen, forward, host_of, host_with, is_left_out, kept_of, match_in, names_few, path_test, route_of, route_value, routes_from, split_of, weighted_of}
use Rattle.check_routes.specs.ListenerTable.{any_in, any_there, listener_value, manager_in, named_routes, routes_of}

-- ---- headers

fair_pattern_test : (refuses : List ℕ → Bool) (text : List ℕ) → IsFair refuses (pattern_test refuses text)
fair_pattern_test refuses text = fair_then refuses (pattern_of refuses text) (λ built. Ok (test.Pattern built)) (fair_pattern refuses text) (λ built. tt)

fair_string : (refuses : List ℕ → Bool) (ignore_case : Bool) (one : Option RawStringMatcherOne) → IsFair refuses (string_test refuses ignore_case one)
fair_string refuses ignore_case None = tt
fair_string refuses ignore_case (Some (string.Exact t)) = tt
fair_string refuses ignore_case (Some (string.Prefix t)) = tt
fair_string refuses ignore_case (Some (string.Suffix t)) = tt
fair_string refuses ignore_case (Some (string.SafeRegex pattern)) = fair_pattern_test refuses pattern.regex
fair_string refuses ignore_case (Some (string.Contains t)) = tt

fair_header_test : (refuses : List ℕ → Bool) (one : Option RawHeaderMatcherOne) → IsFair refuses (header_test refuses one)
fair_header_test refuses None = tt
fair_header_test refuses (Some (header.ExactMatch t)) = tt
fair_header_test refuses (Some (header.RangeMatch range)) = tt
fair_header_test refuses (Some (header.PresentMatch b)) = tt
fair_header_test refuses (Some (header.PrefixMatch t)) = tt
fair_header_test refuses (Some (header.SuffixMatch t)) = tt
fair_header_test refuses (Some (header.SafeRegexMatch pattern)) = fair_pattern_test refuses pattern.regex
fair_header_test refuses (Some (header.ContainsMatch t)) = tt
fair_header_test refuses (Some (header.StringMatch string)) = fair_string refuses string.ignore_case string.one

fair_header : (refuses : List ℕ → Bool) (raw : RawHeaderMatcher) → IsFair refuses (header_rule refuses raw)
unfolding header_rule
fair_header refuses raw = fair_then refuses (header_test refuses raw.one) _ (fair_header_test refuses raw.one) (λ test. tt)

-- ---- routes

fair_path : (refuses : List ℕ → Bool) (case : Bool) (one : Option RawRouteMatchOne) → IsFair refuses (path_test refuses case one)
fair_path refuses case None = tt
fair_path refuses case (Some (path.Prefix text)) = tt
fair_path refuses case (Some (path.Path text)) = tt
fair_path refuses case (Some (path.SafeRegex pattern)) = fair_then refuses (pattern_of refuses pattern.regex) _ (fair_pattern refuses pattern.regex) (λ built. tt)

fair_match : (refuses : List ℕ → Bool) (m : Option RawRouteMatch) → IsFair refuses (match_in m)
fair_match refuses None = tt
fair_match refuses (Some m) = tt

fair_weighted : (refuses : List ℕ → Bool) (raw : RawClusterWeight) → IsFair refuses (weighted_of raw)
unfolding weighted_of
fair_weighted refuses raw = fair_then refuses (required_name raw.name) _ (fair_name refuses raw.name) (λ cluster. tt)

fair_split : (refuses : List ℕ → Bool) (raws : List RawClusterWeight) → IsFair refuses (split_of raws)
unfolding split_of
fair_split refuses raws =
    fair_then refuses (each weighted_of raws) _ (fair_each refuses weighted_of raws (fair_weighted refuses))
    (λ clusters. fair_then refuses (demand (can_be_chosen clusters) reason.Weights) _ (fair_demand refuses (can_be_chosen clusters) reason.Weights) (λ some. tt))

fair_forward : (refuses : List ℕ → Bool) (one : Option RawRouteActionOne) → IsFair refuses (forward one)
fair_forward refuses None = tt
fair_forward refuses (Some (Cluster name)) = fair_then refuses (required_name name) _ (fair_name refuses name) (λ cluster. tt)
fair_forward refuses (Some (ClusterHeader name)) = tt
fair_forward refuses (Some (WeightedClusters clusters)) = fair_split refuses clusters.clusters

fair_action : (refuses : List ℕ → Bool) (action : Option RawRouteAction) → IsFair refuses (action_of action)
fair_action refuses None = tt
fair_action refuses (Some action) = fair_forward refuses action.one

fair_route : (refuses : List ℕ → Bool) (place : ℕ) (raw : RawRoute) → IsFair refuses (route_of refuses place raw)
unfolding route_of
fair_route refuses place raw =
    fair_then refuses (match_in raw.match_) _ (fair_match refuses raw.match_)
    (λ m. fair_then refuses (path_test refuses (unwrap_or m.case_sensitive true) m.one) _ (fair_path refuses (unwrap_or m.case_sensitive true) m.one)
    (λ path. fair_then refuses (each (header_rule refuses) m.headers) _ (fair_each refuses (header_rule refuses) m.headers (fair_header refuses))
    (λ headers. fair_then refuses (runtime_part m.runtime_fraction) _ (fair_runtime refuses m.runtime_fraction)
    (λ fraction. fair_then refuses (action_of raw.route) _ (fair_action refuses raw.route) (λ action. tt)))))

fair_kept : (refuses : List ℕ → Bool) (place : ℕ) (raw : RawRoute) → IsFair refuses (kept_of refuses place raw)
unfolding kept_of
fair_kept refuses place raw = fair_if refuses (is_left_out raw) _ _ tt (fair_then refuses (route_of refuses place raw) _ (fair_route refuses place raw) (λ route. tt))

fair_routes : (refuses : List ℕ → Bool) (place : ℕ) (raws : List RawRoute) → IsFair refuses (routes_from refuses place raws)
unfolding routes_from
fair_routes refuses place [] = tt
fair_routes refuses place (r ∷ rs) =
    fair_then refuses (kept_of refuses place r) _ (fair_kept refuses place r)
    (λ kept. fair_then refuses (routes_from refuses (place + 1) rs) _ (fair_routes refuses (place + 1) rs) (λ routes. tt))

fair_host : (refuses : List ℕ → Bool) (raw : RawVirtualHost) → IsFair refuses (host_of refuses raw)
unfolding host_of
fair_host refuses raw =
    fair_then refuses (demand (list_all is_domain raw.domains) reason.Domain) _ (fair_demand refuses (list_all is_domain raw.domains) reason.Domain)
    (λ sound. fair_then refuses (routes_from refuses 0 raw.routes) _ (fair_routes refuses 0 raw.routes)
    (λ routes. fair_then refuses (demand (names_few (host_with raw routes)) reason.ManyClusters) _ (fair_demand refuses (names_few (host_with raw routes)) reason.ManyClusters) (λ few. tt)))

pub fair_route_value : (refuses : List ℕ → Bool) (name : List ℕ) (raw : RawRoutes) → IsFair refuses (route_value refuses name raw)
unfolding route_value
fair_route_value refuses name raw =
    fair_then refuses (each (host_of refuses) raw.virtual_hosts) _ (fair_each refuses (host_of refuses) raw.virtual_hosts (fair_host refuses)) (λ hosts. tt)

-- ---- listeners

fair_any_there : (refuses : List ℕ → Bool) (any : Option AnyValue) → IsFair refuses (any_there any)
fair_any_there refuses None = tt
fair_any_there refuses (Some any) = tt

fair_any : (refuses : List ℕ → Bool) (api : Option RawApiListener) → IsFair refuses (any_in api)
fair_any refuses None = tt
fair_any refuses (Some api) = fair_any_there refuses api.api_listener

fair_named : (refuses : List ℕ → Bool) (rds : RawRds) → IsFair refuses (named_routes rds)
unfolding named_routes
fair_named refuses rds =
    fair_then refuses (demand (is_sourced rds.config_source) reason.ConfigSource) _ (fair_demand refuses (is_sourced rds.config_source) reason.ConfigSource)
    (λ sourced. fair_then refuses (required_name rds.route_config_name) _ (fair_name refuses rds.route_config_name) (λ name. tt))

fair_from : (refuses : List ℕ → Bool) (one : Option RawManagerOne) → IsFair refuses (routes_of refuses one)
fair_from refuses None = tt
fair_from refuses (Some (Rds rds)) = fair_named refuses rds
fair_from refuses (Some (RouteConfig raw)) = fair_then refuses (route_value refuses (canonical_of raw.name) raw) _ (fair_route_value refuses (canonical_of raw.name) raw) (λ routes. tt)

fair_manager : (refuses : List ℕ → Bool) (raw : RawListener) → IsFair refuses (manager_in raw)
unfolding manager_in
fair_manager refuses raw =
    fair_then refuses (any_in raw.api_listener) _ (fair_any refuses raw.api_listener)
    (λ any. fair_then refuses (demand (bytes_eq any.type_url manager_url) reason.WrongType) _ (fair_demand refuses (bytes_eq any.type_url manager_url) reason.WrongType)
    (λ typed. fair_readable refuses (manager_of any.value)))

pub fair_listener_value : (refuses : List ℕ → Bool) (name : List ℕ) (raw : RawListener) → IsFair refuses (listener_value refuses name raw)
unfolding listener_value
fair_listener_value refuses name raw =
    fair_then refuses (manager_in raw) _ (fair_manager refuses raw) (λ manager. fair_then refuses (routes_of refuses manager.one) _ (fair_from refuses manager.one) (λ routes. tt))
