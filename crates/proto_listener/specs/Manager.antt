-- What the bytes of a connection manager say (envoy.extensions.filters.network.http_connection_manager.v3:
-- HttpConnectionManager: the routes are rds 3 or route_config 4; Rds: config_source 1, route_config_name 2).
use Rattle.std.specs.Prelude.{ℕ, List, [], ◌∷◌, option_map, Result, Ok}
use Rattle.proto_wire.specs.Oneof.{read_member, ◌or◌}
use Rattle.proto_wire.specs.Reading.{◌>>=◌}
use Rattle.proto_wire.specs.FieldValues.{last_text, occurrences, read_singular}
use Rattle.proto_wire.specs.Wire.{fields}
use Rattle.proto_wire.specs.declared.field.Member.TheVariants.{Bytes}
use Rattle.proto_route.specs.ConfigSource.{config_source_of}
use Rattle.proto_route.specs.RawRouteFields.{routes_of}
use Rattle.proto_listener.specs.declared.manager.RawRds.{RawRds}
use Rattle.proto_listener.specs.declared.manager.RawManager.{RawManager}
use Rattle.proto_listener.specs.declared.manager.RawManagerOne.TheVariants.{Rds, RouteConfig}

unfoldable pub rds_of : List ℕ → Result RawRds ℕ
rds_of bs = do
  fs ← fields bs
  config_source ← read_singular config_source_of 1 fs
  route_config_name ← last_text 2 fs
  Ok (record { config_source = config_source; route_config_name = route_config_name })

unfoldable pub manager_of : List ℕ → Result RawManager ℕ
manager_of bs = do
  fs ← fields bs
  members ← Ok (occurrences (Bytes 3 ∷ Bytes 4 ∷ []) fs)
  rds ← read_member rds_of 3 members
  route_config ← read_member routes_of 4 members
  Ok (record { one = option_map Rds rds or option_map RouteConfig route_config })
