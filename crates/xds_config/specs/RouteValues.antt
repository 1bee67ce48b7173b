-- What holds of a route configuration that passed its checks (gRFC A28, Envoy's RouteConfiguration).
use Rattle.std.specs.Prelude.{ℕ, ◌-◌, ◌<◌, ◌≤◌, ◌^◌, ◌≢◌, ◌==◌, ◌&&◌, ◌||◌, List, [], length, map, count_by, slice_index, All, AllPairs, Contains, Bool, IsTrue, nat_lt, ⊤}
use Rattle.std.specs.List.{flat_map}
use Rattle.xds_config.specs.declared.route_values.RouteValue.{RouteValue}
use Rattle.xds_config.specs.declared.route_values.Host.{Host}
use Rattle.xds_config.specs.declared.route_values.Route.{Route}
use Rattle.xds_config.specs.declared.route_values.Weighted.{Weighted}
use Rattle.xds_config.specs.declared.route_values.Action.{Action}
use Rattle.xds_config.specs.declared.route_values.Action.TheVariants.{To, Nothing}
use Rattle.weight_pick.specs.Weights.{AreWeights}

-- a domain isn't empty, and has at most one `*`, which stands first or last; 42 is `*`
abbrev pub is_domain : List ℕ → Bool
is_domain domain =
    let stars = count_by (λ b. b == 42) domain in
    nat_lt 0 (length domain)
    && (stars == 0 || (stars == 1 && (slice_index domain 0 == 42 || slice_index domain (length domain - 1) == 42)))

abbrev pub weights_of : List Weighted → List ℕ
weights_of clusters = map (λ c. c.weight) clusters

-- clusters that can be chosen by weight: each has a name, and their weights sum to 1 to 4,294,967,295
pub record IsLawfulSplit (clusters : List Weighted) : Type 0 where
  pub named : All (λ c. c.cluster ≢ []) clusters
  pub weights : AreWeights (weights_of clusters)
  pub few : length clusters < 2 ^ 31

abbrev pub IsLawfulAction : Action → Type 0
IsLawfulAction (To clusters) = IsLawfulSplit clusters
IsLawfulAction Nothing = ⊤

pub record IsLawfulRoute (route : Route) : Type 0 where
  pub place : route.place < 2 ^ 31
  pub action : IsLawfulAction route.action

-- the clusters that an action names, those of weight 0 among them
abbrev pub action_clusters : Action → List (List ℕ)
action_clusters (To clusters) = map (λ c. c.cluster) clusters
action_clusters Nothing = []

-- the clusters that the routes of a virtual host name
abbrev pub host_clusters : Host → List (List ℕ)
host_clusters host = flat_map (λ r. action_clusters r.action) host.routes

-- at most so many different names: one list of that length has them all
pub record HasAtMost (most : ℕ) (names : List (List ℕ)) : Type 0 where
  pub all : List (List ℕ)
  pub few : length all ≤ most
  pub each : All (Contains all) names

-- routes stand by rising place
pub record IsLawfulHost (host : Host) : Type 0 where
  pub domains : All (λ d. IsTrue (is_domain d)) host.domains
  pub routes : All IsLawfulRoute host.routes
  pub rising : AllPairs (λ a b. a.place < b.place) host.routes
  pub few : length host.routes < 2 ^ 31
  pub clusters : HasAtMost 1024 (host_clusters host)

pub record IsLawfulRouteValue (value : RouteValue) : Type 0 where
  pub hosts : All IsLawfulHost value.hosts
  pub few : length value.hosts < 2 ^ 31
