-- What the bytes of an endpoint say (envoy.config.endpoint.v3: LbEndpoint: endpoint 1, health_status 2;
-- Endpoint: address 1; envoy.config.core.v3: Address: socket_address 1; SocketAddress: address 2, port_value 3).
use Rattle.std.specs.Prelude.{ℕ, List, Result, Ok}
use Rattle.proto_wire.specs.Reading.{◌>>=◌}
use Rattle.proto_wire.specs.FieldValues.{last_text, last_uint32, read_singular}
use Rattle.proto_wire.specs.Wire.{fields}
use Rattle.proto_cluster.specs.declared.endpoint.RawSocket.{RawSocket}
use Rattle.proto_cluster.specs.declared.endpoint.RawAddress.{RawAddress}
use Rattle.proto_cluster.specs.declared.endpoint.RawEndpoint.{RawEndpoint}
use Rattle.proto_cluster.specs.declared.endpoint.RawLbEndpoint.{RawLbEndpoint}

unfoldable pub socket_of : List ℕ → Result RawSocket ℕ
socket_of bs = do
  fs ← fields bs
  address ← last_text 2 fs
  Ok (record { address = address; port_value = last_uint32 3 fs })

unfoldable pub address_of : List ℕ → Result RawAddress ℕ
address_of bs = do
  fs ← fields bs
  socket_address ← read_singular socket_of 1 fs
  Ok (record { socket_address = socket_address })

unfoldable pub endpoint_of : List ℕ → Result RawEndpoint ℕ
endpoint_of bs = do
  fs ← fields bs
  address ← read_singular address_of 1 fs
  Ok (record { address = address })

unfoldable pub lb_endpoint_of : List ℕ → Result RawLbEndpoint ℕ
lb_endpoint_of bs = do
  fs ← fields bs
  endpoint ← read_singular endpoint_of 1 fs
  Ok (record { endpoint = endpoint; health_status = last_uint32 2 fs })
