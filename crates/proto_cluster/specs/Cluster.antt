-- What the bytes of a Cluster say (envoy.config.cluster.v3: Cluster: name 1; its endpoints are found by type 2 or
-- cluster_type 38; eds_cluster_config 3, lb_policy 6, circuit_breakers 10 and load_assignment 33, which stay
-- unread; CustomClusterType: name 1, typed_config 2; EdsClusterConfig: eds_config 1, service_name 2).
use Rattle.std.specs.Prelude.{ℕ, List, [], ◌∷◌, option_map, Result, Ok}
use Rattle.proto_wire.specs.Oneof.{read_member, if_set, ◌or◌}
use Rattle.proto_wire.specs.Reading.{◌>>=◌}
use Rattle.proto_wire.specs.FieldValues.{last_text, last_uint32, joined, occurrences, oneof_of, read_singular}
use Rattle.proto_wire.specs.Wire.{fields}
use Rattle.proto_wire.specs.declared.field.Member.TheVariants.{Bytes, Varint}
use Rattle.proto_discovery.specs.Any.{any_of}
use Rattle.proto_route.specs.ConfigSource.{config_source_of}
use Rattle.proto_cluster.specs.declared.cluster.RawClusterType.{RawClusterType}
use Rattle.proto_cluster.specs.declared.cluster.RawEds.{RawEds}
use Rattle.proto_cluster.specs.declared.cluster.RawCluster.{RawCluster}
use Rattle.proto_cluster.specs.declared.cluster.RawClusterOne.TheVariants.{Discovery, ClusterType}

unfoldable pub cluster_type_of : List ℕ → Result RawClusterType ℕ
cluster_type_of bs = do
  fs ← fields bs
  name ← last_text 1 fs
  typed_config ← read_singular any_of 2 fs
  Ok (record { name = name; typed_config = typed_config })

unfoldable pub eds_of : List ℕ → Result RawEds ℕ
eds_of bs = do
  fs ← fields bs
  eds_config ← read_singular config_source_of 1 fs
  service_name ← last_text 2 fs
  Ok (record { eds_config = eds_config; service_name = service_name })

unfoldable pub cluster_of : List ℕ → Result RawCluster ℕ
cluster_of bs = do
  fs ← fields bs
  members ← Ok (occurrences (Varint 2 ∷ Bytes 38 ∷ []) fs)
  set ← Ok (oneof_of (2 ∷ 38 ∷ []) members)
  name ← last_text 1 fs
  discovery ← Ok (last_uint32 2 fs)
  eds_cluster_config ← read_singular eds_of 3 fs
  lb_policy ← Ok (last_uint32 6 fs)
  circuit_breakers ← Ok (joined 10 fs)
  load_assignment ← Ok (joined 33 fs)
  cluster_type ← read_member cluster_type_of 38 members
  one ← Ok (if_set set 2 (Discovery discovery) or option_map ClusterType cluster_type)
  Ok (record {
    name = name;
    one = one;
    eds_cluster_config = eds_cluster_config;
    lb_policy = lb_policy;
    circuit_breakers = circuit_breakers;
    load_assignment = load_assignment;
  })
