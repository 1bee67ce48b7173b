-- What the bytes of a ClusterLoadAssignment say (envoy.config.endpoint.v3: ClusterLoadAssignment: cluster_name 1,
-- endpoints 2, policy 4; Policy: drop_overloads 2; DropOverload: category 1, drop_percentage 2).
use Rattle.std.specs.Prelude.{ℕ, List, Result, Ok}
use Rattle.proto_wire.specs.Reading.{◌>>=◌}
use Rattle.proto_wire.specs.FieldValues.{last_text, read_repeated, read_singular}
use Rattle.proto_wire.specs.Wire.{fields}
use Rattle.proto_route.specs.Fraction.{fractional_percent_of}
use Rattle.proto_cluster.specs.Locality.{locality_endpoints_of}
use Rattle.proto_cluster.specs.declared.assignment.RawDrop.{RawDrop}
use Rattle.proto_cluster.specs.declared.assignment.RawPolicy.{RawPolicy}
use Rattle.proto_cluster.specs.declared.assignment.RawAssignment.{RawAssignment}

unfoldable pub drop_of : List ℕ → Result RawDrop ℕ
drop_of bs = do
  fs ← fields bs
  category ← last_text 1 fs
  drop_percentage ← read_singular fractional_percent_of 2 fs
  Ok (record { category = category; drop_percentage = drop_percentage })

unfoldable pub policy_of : List ℕ → Result RawPolicy ℕ
policy_of bs = do
  fs ← fields bs
  drop_overloads ← read_repeated drop_of 2 fs
  Ok (record { drop_overloads = drop_overloads })

unfoldable pub assignment_of : List ℕ → Result RawAssignment ℕ
assignment_of bs = do
  fs ← fields bs
  cluster_name ← last_text 1 fs
  endpoints ← read_repeated locality_endpoints_of 2 fs
  policy ← read_singular policy_of 4 fs
  Ok (record { cluster_name = cluster_name; endpoints = endpoints; policy = policy })
