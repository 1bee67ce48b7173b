-- What the bytes of a RouteAction say (envoy.config.route.v3: calls go to cluster 1, cluster_header 2 or
-- weighted_clusters 3), and those of its weighted clusters (WeightedCluster: clusters 1; ClusterWeight: name 1,
-- weight 2).
use Rattle.std.specs.Prelude.{ℕ, List, [], ◌∷◌, option_map, Result, Ok}
use Rattle.proto_wire.specs.Oneof.{read_member, if_set, ◌or◌}
use Rattle.proto_wire.specs.Reading.{◌>>=◌}
use Rattle.proto_wire.specs.FieldValues.{last_text, occurrences, oneof_of, read_repeated, read_singular}
use Rattle.proto_wire.specs.Wire.{fields}
use Rattle.proto_wire.specs.Wrappers.{uint32_value}
use Rattle.proto_wire.specs.declared.field.Member.TheVariants.{Bytes}
use Rattle.proto_route.specs.declared.route_action.RawClusterWeight.{RawClusterWeight}
use Rattle.proto_route.specs.declared.route_action.RawWeightedCluster.{RawWeightedCluster}
use Rattle.proto_route.specs.declared.route_action.RawRouteAction.{RawRouteAction}
use Rattle.proto_route.specs.declared.route_action.RawRouteActionOne.TheVariants.{Cluster, ClusterHeader, WeightedClusters}

unfoldable pub cluster_weight_of : List ℕ → Result RawClusterWeight ℕ
cluster_weight_of bs = do
  fs ← fields bs
  name ← last_text 1 fs
  weight ← read_singular uint32_value 2 fs
  Ok (record { name = name; weight = weight })

unfoldable pub weighted_cluster_of : List ℕ → Result RawWeightedCluster ℕ
weighted_cluster_of bs = do
  fs ← fields bs
  clusters ← read_repeated cluster_weight_of 1 fs
  Ok (record { clusters = clusters })

unfoldable pub route_action_of : List ℕ → Result RawRouteAction ℕ
route_action_of bs = do
  fs ← fields bs
  members ← Ok (occurrences (Bytes 1 ∷ Bytes 2 ∷ Bytes 3 ∷ []) fs)
  set ← Ok (oneof_of (1 ∷ 2 ∷ 3 ∷ []) members)
  cluster ← last_text 1 fs
  cluster_header ← last_text 2 fs
  weighted_clusters ← read_member weighted_cluster_of 3 members
  one ← Ok (if_set set 1 (Cluster cluster) or if_set set 2 (ClusterHeader cluster_header)
      or option_map WeightedClusters weighted_clusters)
  Ok (record { one = one })
