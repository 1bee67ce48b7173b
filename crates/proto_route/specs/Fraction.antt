-- What the bytes of a FractionalPercent and of a RuntimeFractionalPercent say (envoy.type.v3: numerator 1,
-- denominator 2; envoy.config.core.v3: default_value 1).
use Rattle.std.specs.Prelude.{ℕ, List, Result, Ok}
use Rattle.proto_wire.specs.Reading.{◌>>=◌}
use Rattle.proto_wire.specs.FieldValues.{last_uint32, read_singular}
use Rattle.proto_wire.specs.Wire.{fields}
use Rattle.proto_route.specs.declared.fractional_percent.RawFractionalPercent.{RawFractionalPercent}
use Rattle.proto_route.specs.declared.fractional_percent.RawRuntimeFractionalPercent.{RawRuntimeFractionalPercent}

unfoldable pub fractional_percent_of : List ℕ → Result RawFractionalPercent ℕ
fractional_percent_of bs = do
  fs ← fields bs
  Ok (record { numerator = last_uint32 1 fs; denominator = last_uint32 2 fs })

unfoldable pub runtime_fraction_of : List ℕ → Result RawRuntimeFractionalPercent ℕ
runtime_fraction_of bs = do
  fs ← fields bs
  default_value ← read_singular fractional_percent_of 1 fs
  Ok (record { default_value = default_value })
