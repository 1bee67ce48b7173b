-- The checks of a Cluster (gRFC A27, A37, A47, Envoy's cluster API).
use Rattle.std.specs.Prelude.{ℕ, List, [], Bool, not, ◌&&◌, ◌==◌, bytes_eq, codes, Option, Some, None, unwrap_or, Result, Ok}
use Rattle.xc_base.specs.declared.reason.Reason.TheVariants as reason
use Rattle.proto_discovery.specs.Any.{empty_any}
use Rattle.proto_discovery.specs.TypeUrls.{aggregate_url}
use Rattle.proto_cluster.specs.Aggregate.{aggregate_of}
use Rattle.proto_cluster.specs.declared.cluster.RawCluster.{RawCluster}
use Rattle.proto_cluster.specs.declared.cluster.RawClusterType.{RawClusterType}
use Rattle.proto_cluster.specs.declared.cluster.RawEds.{RawEds}
use Rattle.proto_cluster.specs.declared.cluster.RawClusterOne.{RawClusterOne}
use Rattle.proto_cluster.specs.declared.cluster.RawClusterOne.TheVariants.{Discovery, ClusterType}
use Rattle.xds_config.specs.declared.cluster_values.ClusterValue.{ClusterValue}
use Rattle.xds_config.specs.declared.cluster_values.Shape.{Shape}
use Rattle.xds_config.specs.declared.cluster_values.Shape.TheVariants.{Eds, Aggregate}
use Rattle.xds_name.specs.Names.{canonical_of, is_xdstp}
use Rattle.check_steps.specs.declared.check_fault.Stop.{Stop}
use Rattle.check_steps.specs.Sources.{is_sourced}
use Rattle.check_steps.specs.ResourceNames.{is_nothing, required_name}
use Rattle.check_steps.specs.TableSteps.{◌>>=◌, demand, each, readable}

-- ---- aggregates, for which lb_policy isn't read

unfoldable pub aggregate_shape : RawClusterType → Result Shape Stop
aggregate_shape raw = do
  known ← demand (bytes_eq raw.name (codes "envoy.clusters.aggregate")) reason.ClusterKind
  any ← Ok (unwrap_or raw.typed_config empty_any)
  typed ← demand (bytes_eq any.type_url aggregate_url) reason.WrongType
  children ← readable (aggregate_of any.value)
  some ← demand (not (is_nothing children)) reason.NoClusters
  clusters ← each required_name children
  Ok (Aggregate clusters)

-- ---- clusters whose endpoints are a resource

-- one that is absent has no source, and no name of its own for the endpoints
abbrev pub eds_of : Option RawEds → RawEds
eds_of None = record { eds_config = None; service_name = [] }
eds_of (Some eds) = eds

unfoldable pub eds_shape : List ℕ → RawCluster → ℕ → Result Shape Stop
eds_shape name raw discovery = do
  known ← demand (discovery == 3) reason.ClusterKind
  eds ← Ok (eds_of raw.eds_cluster_config)
  sourced ← demand (is_sourced eds.eds_config) reason.ConfigSource
  served ← demand (not (is_xdstp name && is_nothing eds.service_name)) reason.NoName
  balanced ← demand (raw.lb_policy == 0) reason.LbPolicy
  Ok (Eds (canonical_of eds.service_name))

-- ---- the whole

-- where neither is set, the type is 0
abbrev pub shape_of : List ℕ → RawCluster → Option RawClusterOne → Result Shape Stop
shape_of name raw None = eds_shape name raw 0
shape_of name raw (Some (Discovery discovery)) = eds_shape name raw discovery
shape_of name raw (Some (ClusterType cluster_type)) = aggregate_shape cluster_type

unfoldable pub cluster_value : List ℕ → RawCluster → Result ClusterValue Stop
cluster_value name raw = do
  shape ← shape_of name raw raw.one
  Ok record { name = name; shape = shape }
