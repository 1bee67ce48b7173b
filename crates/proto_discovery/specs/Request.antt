-- The one spelling of a DiscoveryRequest (envoy.service.discovery.v3: version_info 1, node 2, resource_names 3,
-- type_url 4, response_nonce 5, error_detail 6; envoy.config.core.v3.Node: id 1, cluster 2, locality 4,
-- client_features 10; Locality: region 1, zone 2, sub_zone 3; google.rpc.Status: code 1, message 2): fields in
-- ascending order of number, the shortest varints, and no field that has its default.
use Rattle.std.specs.Prelude.{ℕ, ◌++◌, List, [], length, ◌==◌, ◌&&◌, Option, None, Some, codes, if◌then◌else◌}
use Rattle.std.specs.List.{flat_map}
use Rattle.proto_wire.specs.Spelling.{spelled_uint, spelled_bytes, text_field}
use Rattle.xc_base.specs.declared.call.Node.{Node}
use Rattle.proto_discovery.specs.TypeUrls.{type_url_of}
use Rattle.proto_discovery.specs.declared.request.Request.{Request}

unfoldable pub spelled_locality : Node → List ℕ
spelled_locality node = text_field 1 node.region ++ text_field 2 node.zone ++ text_field 3 node.sub_zone

-- a locality of three empty texts is absent
unfoldable pub locality_field : Node → List ℕ
locality_field node =
    if (length node.region == 0) && (length node.zone == 0) && (length node.sub_zone == 0) then [] else spelled_bytes 4 (spelled_locality node)

-- what the client can do
unfoldable pub feature_fields : List ℕ
feature_fields = spelled_bytes 10 (codes "envoy.lb.does_not_support_overprovisioning") ++ spelled_bytes 10 (codes "xds.config.resource-in-sotw")

unfoldable pub spelled_node : Node → List ℕ
spelled_node node = text_field 1 node.id ++ text_field 2 node.cluster ++ locality_field node ++ feature_fields

abbrev pub node_field : Option Node → List ℕ
node_field None = []
node_field (Some node) = spelled_bytes 2 (spelled_node node)

-- code 3 is INVALID_ARGUMENT
unfoldable pub spelled_status : List ℕ → List ℕ
spelled_status message = spelled_uint 1 3 ++ text_field 2 message

abbrev pub error_field : Option (List ℕ) → List ℕ
error_field None = []
error_field (Some message) = spelled_bytes 6 (spelled_status message)

unfoldable pub name_fields : List (List ℕ) → List ℕ
name_fields names = flat_map (spelled_bytes 3) names

unfoldable pub spelled_request : Request → List ℕ
spelled_request request =
    text_field 1 request.version ++ node_field request.node ++ name_fields request.names
    ++ spelled_bytes 4 (type_url_of request.kind) ++ text_field 5 request.nonce ++ error_field request.error
