-- What the bytes of an aggregate's ClusterConfig say (envoy.extensions.clusters.aggregate.v3: clusters 1).
use Rattle.std.specs.Prelude.{ℕ, List, Result}
use Rattle.proto_wire.specs.Reading.{◌>>=◌}
use Rattle.proto_wire.specs.FieldValues.{texts}
use Rattle.proto_wire.specs.Wire.{fields}

unfoldable pub aggregate_of : List ℕ → Result (List (List ℕ)) ℕ
aggregate_of bs = do
  fs ← fields bs
  texts 1 fs
