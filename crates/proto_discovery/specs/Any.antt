-- What the bytes of an Any say (google.protobuf.Any: type_url 1, value 2).
use Rattle.std.specs.Prelude.{ℕ, List, [], Result, Ok}
use Rattle.proto_wire.specs.Reading.{◌>>=◌}
use Rattle.proto_wire.specs.FieldValues.{last_text, last_bytes}
use Rattle.proto_wire.specs.Wire.{fields}
use Rattle.proto_discovery.specs.declared.any.AnyValue.{AnyValue}

unfoldable pub any_of : List ℕ → Result AnyValue ℕ
any_of bs = do
  fs ← fields bs
  type_url ← last_text 1 fs
  Ok (record { type_url = type_url; value = last_bytes 2 fs })

-- an Any that is absent is one with two empty fields
abbrev pub empty_any : AnyValue
empty_any = record { type_url = []; value = [] }
