-- What the bytes of a Listener say (envoy.config.listener.v3: Listener: name 1, api_listener 19; ApiListener:
-- api_listener 1).
use Rattle.std.specs.Prelude.{ℕ, List, Result, Ok}
use Rattle.proto_wire.specs.Reading.{◌>>=◌}
use Rattle.proto_wire.specs.FieldValues.{last_text, read_singular}
use Rattle.proto_wire.specs.Wire.{fields}
use Rattle.proto_discovery.specs.Any.{any_of}
use Rattle.proto_listener.specs.declared.listener.RawApiListener.{RawApiListener}
use Rattle.proto_listener.specs.declared.listener.RawListener.{RawListener}

unfoldable pub api_listener_of : List ℕ → Result RawApiListener ℕ
api_listener_of bs = do
  fs ← fields bs
  api_listener ← read_singular any_of 1 fs
  Ok (record { api_listener = api_listener })

unfoldable pub listener_of : List ℕ → Result RawListener ℕ
listener_of bs = do
  fs ← fields bs
  name ← last_text 1 fs
  api_listener ← read_singular api_listener_of 19 fs
  Ok (record { name = name; api_listener = api_listener })
