-- What the bytes of a ConfigSource say (envoy.config.core.v3: the source is ads 3 or self 5, each a message
-- that stays unread).
use Rattle.std.specs.Prelude.{ℕ, List, [], ◌∷◌, Result, Ok}
use Rattle.proto_wire.specs.Oneof.{if_set, ◌or◌}
use Rattle.proto_wire.specs.Reading.{◌>>=◌}
use Rattle.proto_wire.specs.FieldValues.{occurrences, oneof_of}
use Rattle.proto_wire.specs.Wire.{fields}
use Rattle.proto_wire.specs.declared.field.Member.TheVariants.{Bytes}
use Rattle.proto_route.specs.declared.config_source.RawConfigSource.{RawConfigSource}
use Rattle.proto_route.specs.declared.config_source.RawConfigSourceOne.TheVariants.{Ads, Own}

unfoldable pub config_source_of : List ℕ → Result RawConfigSource ℕ
config_source_of bs = do
  fs ← fields bs
  set ← Ok (oneof_of (3 ∷ 5 ∷ []) (occurrences (Bytes 3 ∷ Bytes 5 ∷ []) fs))
  Ok (record { one = if_set set 3 Ads or if_set set 5 Own })
