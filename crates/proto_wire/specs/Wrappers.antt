-- What the bytes of a wrapper of a number or a bool say (google.protobuf.UInt32Value and BoolValue: value 1).
use Rattle.std.specs.Prelude.{ℕ, List, Bool, Result, Ok}
use Rattle.proto_wire.specs.Reading.{◌>>=◌}
use Rattle.proto_wire.specs.FieldValues.{last_uint32, last_bool}
use Rattle.proto_wire.specs.Wire.{fields}

unfoldable pub uint32_value : List ℕ → Result ℕ ℕ
uint32_value bs = do
  fs ← fields bs
  Ok (last_uint32 1 fs)

unfoldable pub bool_value : List ℕ → Result Bool ℕ
bool_value bs = do
  fs ← fields bs
  Ok (last_bool 1 fs)
