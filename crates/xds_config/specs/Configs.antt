-- What holds of a configuration that was assembled of values that passed their checks (gRFC A74, A37).
use Rattle.std.specs.Prelude.{◌≢◌, ◌<◌, ◌^◌, List, [], ℕ, length, bytes_eq, slice_get, position, Option, All, AllPairs, IfOk}
use Rattle.std.specs.Option.{option_map_or}
use Rattle.xds_config.specs.declared.config.Front.{Front}
use Rattle.xds_config.specs.declared.config.Leaves.{Leaves}
use Rattle.xds_config.specs.declared.config.Config.{Config}
pub use Rattle.xds_config.specs.SearchedLists.{IsNameBefore}
use Rattle.xds_config.specs.RouteValues.{IsLawfulRouteValue, host_clusters}
use Rattle.xds_config.specs.Endpoints.{IsLawfulEndpoints}

-- the clusters that the virtual host of a front names
abbrev pub front_clusters : Front → List (List ℕ)
front_clusters front = option_map_or host_clusters (slice_get front.routes.hosts front.host) []

-- the host is a place in the routes
pub record IsLawfulFront (front : Front) : Type 0 where
  pub routes : IsLawfulRouteValue front.routes
  pub host : front.host < length front.routes.hosts

-- there is a leaf, and no two have one name
pub record AreLawfulLeaves (leaves : Leaves) : Type 0 where
  pub some : 0 < length leaves.leaves
  pub once : AllPairs (λ a b. a.name ≢ b.name) leaves.leaves
  pub endpoints : All (λ l. IfOk l.state IsLawfulEndpoints) leaves.leaves
  pub few : length leaves.leaves < 2 ^ 31

-- the clusters stand in strictly rising order of their names
pub record IsLawfulConfig (config : Config) : Type 0 where
  pub front : IfOk config.front IsLawfulFront
  pub clusters : All (λ c. IfOk c.state AreLawfulLeaves) config.clusters
  pub rising : AllPairs (λ a b. IsNameBefore a.name b.name) config.clusters
  pub few : length config.clusters < 2 ^ 31

-- the place of the first cluster of a name
abbrev pub cluster_place : Config → List ℕ → Option ℕ
cluster_place config name = position (λ c. bytes_eq c.name name) config.clusters
