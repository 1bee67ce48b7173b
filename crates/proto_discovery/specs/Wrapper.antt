-- A resource in the wrapper that names it (envoy.service.discovery.v3.Resource: version 1, resource 2, name 3).
use Rattle.std.specs.Prelude.{ℕ, List, [], ◌∷◌, Option, None, Some, Result, Ok, unwrap_or, if◌then◌else◌}
use Rattle.std.specs.Str.{bytes_eq}
use Rattle.proto_wire.specs.Reading.{◌>>=◌}
use Rattle.proto_wire.specs.FieldValues.{last_text, read_singular}
use Rattle.proto_wire.specs.Wire.{fields}
use Rattle.proto_discovery.specs.Any.{any_of, empty_any}
use Rattle.proto_discovery.specs.TypeUrls.{wrapper_url}
use Rattle.proto_discovery.specs.declared.any.AnyValue.{AnyValue}
use Rattle.proto_discovery.specs.declared.wrapper.Unwrapped.{Unwrapped}

-- an empty name is none
abbrev pub name_of : List ℕ → Option (List ℕ)
name_of [] = None
name_of (b ∷ bs) = Some (b ∷ bs)

unfoldable pub wrapped : List ℕ → Result Unwrapped ℕ
wrapped bs = do
  fs ← fields bs
  version ← last_text 1 fs
  resource ← read_singular any_of 2 fs
  name ← last_text 3 fs
  Ok (record { name = name_of name; inner = unwrap_or resource empty_any })

-- what a wrapper holds, or the Any itself where it isn't of the wrapper's type
unfoldable pub unwrapped : AnyValue → Result Unwrapped ℕ
unwrapped any = if bytes_eq any.type_url wrapper_url then wrapped any.value else Ok (record { name = None; inner = any })
