-- What holds of a cluster that passed its checks (gRFC A27, A37, A47, Envoy's Cluster).
use Rattle.std.specs.Prelude.{◌≡◌, ◌≢◌, ◌==◌, ◌<◌, ◌^◌, ℕ, List, [], length, codes, All, true}
use Rattle.std.specs.List.{starts_with}
use Rattle.xds_config.specs.declared.cluster_values.ClusterValue.{ClusterValue}
use Rattle.xds_config.specs.declared.cluster_values.Shape.{Shape}
use Rattle.xds_config.specs.declared.cluster_values.Shape.TheVariants.{Eds, Aggregate}

-- an aggregate has a child, and each child has a name
pub record AreChildren (clusters : List (List ℕ)) : Type 0 where
  pub some : 0 < length clusters
  pub named : All (λ c. c ≢ []) clusters
  pub few : length clusters < 2 ^ 31

-- where the cluster's name begins with `xdstp:`, the Endpoint resource has a name of its own
abbrev pub IsLawfulShape : List ℕ → Shape → Type 0
IsLawfulShape name (Eds service) = starts_with ◌==◌ name (codes "xdstp:") ≡ true → service ≢ []
IsLawfulShape name (Aggregate clusters) = AreChildren clusters

pub record IsLawfulCluster (value : ClusterValue) : Type 0 where
  pub named : value.name ≢ []
  pub shape : IsLawfulShape value.name value.shape
