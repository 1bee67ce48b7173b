-- What the bytes of the endpoints of a locality say (envoy.config.endpoint.v3.LocalityLbEndpoints: locality 1,
-- lb_endpoints 2, load_balancing_weight 3, priority 5; envoy.config.core.v3.Locality: region 1, zone 2,
-- sub_zone 3).
use Rattle.std.specs.Prelude.{ℕ, List, Result, Ok}
use Rattle.proto_wire.specs.Reading.{◌>>=◌}
use Rattle.proto_wire.specs.FieldValues.{last_text, last_uint32, read_repeated, read_singular}
use Rattle.proto_wire.specs.Wire.{fields}
use Rattle.proto_wire.specs.Wrappers.{uint32_value}
use Rattle.proto_cluster.specs.Endpoint.{lb_endpoint_of}
use Rattle.proto_cluster.specs.declared.locality.RawLocality.{RawLocality}
use Rattle.proto_cluster.specs.declared.locality.RawLocalityLbEndpoints.{RawLocalityLbEndpoints}

unfoldable pub locality_of : List ℕ → Result RawLocality ℕ
locality_of bs = do
  fs ← fields bs
  region ← last_text 1 fs
  zone ← last_text 2 fs
  sub_zone ← last_text 3 fs
  Ok (record { region = region; zone = zone; sub_zone = sub_zone })

unfoldable pub locality_endpoints_of : List ℕ → Result RawLocalityLbEndpoints ℕ
locality_endpoints_of bs = do
  fs ← fields bs
  locality ← read_singular locality_of 1 fs
  lb_endpoints ← read_repeated lb_endpoint_of 2 fs
  load_balancing_weight ← read_singular uint32_value 3 fs
  Ok (record {
    locality = locality;
    lb_endpoints = lb_endpoints;
    load_balancing_weight = load_balancing_weight;
    priority = last_uint32 5 fs;
  })
