-- What the bytes of a DiscoveryResponse say (envoy.service.discovery.v3: version_info 1, resources 2,
-- type_url 4, nonce 5).
use Rattle.std.specs.Prelude.{ℕ, List, Result, Ok}
use Rattle.proto_wire.specs.Reading.{◌>>=◌}
use Rattle.proto_wire.specs.FieldValues.{last_text, read_repeated}
use Rattle.proto_wire.specs.Wire.{fields}
use Rattle.proto_discovery.specs.Any.{any_of}
use Rattle.proto_discovery.specs.declared.response.Response.{Response}

unfoldable pub response_of : List ℕ → Result Response ℕ
response_of bs = do
  fs ← fields bs
  version ← last_text 1 fs
  resources ← read_repeated any_of 2 fs
  type_url ← last_text 4 fs
  nonce ← last_text 5 fs
  Ok (record { version = version; nonce = nonce; type_url = type_url; resources = resources })
