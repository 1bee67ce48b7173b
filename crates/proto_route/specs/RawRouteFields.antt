-- What the bytes of a RouteConfiguration say (envoy.config.route.v3: RouteConfiguration: name 1, virtual_hosts
-- 2; VirtualHost: name 1, domains 2, routes 3; Route: match 1, route 2).
use Rattle.std.specs.Prelude.{ℕ, List, Result, Ok}
use Rattle.proto_wire.specs.Reading.{◌>>=◌}
use Rattle.proto_wire.specs.FieldValues.{last_text, texts, read_repeated, read_singular}
use Rattle.proto_wire.specs.Wire.{fields}
use Rattle.proto_route.specs.RouteAction.{route_action_of}
use Rattle.proto_route.specs.RouteMatch.{route_match_of}
use Rattle.proto_route.specs.declared.routes.RawRoute.{RawRoute}
use Rattle.proto_route.specs.declared.routes.RawVirtualHost.{RawVirtualHost}
use Rattle.proto_route.specs.declared.routes.RawRoutes.{RawRoutes}

unfoldable pub route_of : List ℕ → Result RawRoute ℕ
route_of bs = do
  fs ← fields bs
  match_ ← read_singular route_match_of 1 fs
  route ← read_singular route_action_of 2 fs
  Ok (record { match_ = match_; route = route })

unfoldable pub virtual_host_of : List ℕ → Result RawVirtualHost ℕ
virtual_host_of bs = do
  fs ← fields bs
  name ← last_text 1 fs
  domains ← texts 2 fs
  routes ← read_repeated route_of 3 fs
  Ok (record { name = name; domains = domains; routes = routes })

unfoldable pub routes_of : List ℕ → Result RawRoutes ℕ
routes_of bs = do
  fs ← fields bs
  name ← last_text 1 fs
  virtual_hosts ← read_repeated virtual_host_of 2 fs
  Ok (record { name = name; virtual_hosts = virtual_hosts })
