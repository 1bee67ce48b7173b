-- Short forms of messages, as the bytes that spell them: fields in ascending order of number, the shortest varints, and no
-- field that has its default, unless it is a member of a oneof (protobuf.dev, "Encoding"; envoy.service.discovery.v3,
-- envoy.config.listener.v3, envoy.config.route.v3, envoy.config.cluster.v3, envoy.config.endpoint.v3).
use Rattle.std.specs.Prelude.{ℕ, List, [], ◌++◌}
use Rattle.std.specs.List.{flat_map}
use Rattle.xc_base.specs.declared.names.Kind.{Kind}
use Rattle.proto_wire.specs.Spelling.{spelled_uint, spelled_bytes, number_field, text_field}
use Rattle.proto_discovery.specs.TypeUrls.{type_url_of, manager_url}

-- Any: type_url 1, value 2
abbrev pub any_form : List ℕ → List ℕ → List ℕ
any_form url value = text_field 1 url ++ text_field 2 value

-- DiscoveryResponse: version_info 1, resources 2, type_url 4, nonce 5. Each resource is an Any of the kind's type.
abbrev pub response_form : List ℕ → List ℕ → Kind → List (List ℕ) → List ℕ
response_form version nonce kind resources =
    text_field 1 version ++ flat_map (λ value. spelled_bytes 2 (any_form (type_url_of kind) value)) resources
    ++ text_field 4 (type_url_of kind) ++ text_field 5 nonce

-- ---- listeners and their routes

-- a Listener (name 1, api_listener 19) whose manager has these routes inline (ApiListener: api_listener 1, an Any;
-- HttpConnectionManager: route_config 4)
abbrev pub listener_form : List ℕ → List ℕ → List ℕ
listener_form name routes = text_field 1 name ++ spelled_bytes 19 (spelled_bytes 1 (any_form manager_url (spelled_bytes 4 routes)))

-- RouteConfiguration: name 1, virtual_hosts 2
abbrev pub routes_form : List ℕ → List (List ℕ) → List ℕ
routes_form name hosts = text_field 1 name ++ flat_map (spelled_bytes 2) hosts

-- VirtualHost: name 1, domains 2, routes 3
abbrev pub host_form : List ℕ → List (List ℕ) → List (List ℕ) → List ℕ
host_form name domains routes = text_field 1 name ++ flat_map (spelled_bytes 2) domains ++ flat_map (spelled_bytes 3) routes

-- ClusterWeight: name 1, weight 2 (UInt32Value: value 1)
abbrev pub weighted_form : List ℕ → ℕ → List ℕ
weighted_form name weight = text_field 1 name ++ spelled_bytes 2 (number_field 1 weight)

-- a Route (match 1, route 2) of a prefix (RouteMatch: prefix 1) to weighted clusters (RouteAction: weighted_clusters 3;
-- WeightedCluster: clusters 1). The prefix is written though it may be empty, since it is a member of a oneof.
abbrev pub prefix_form : List ℕ → List (List ℕ) → List ℕ
prefix_form prefix clusters = spelled_bytes 1 (spelled_bytes 1 prefix) ++ spelled_bytes 2 (spelled_bytes 3 (flat_map (spelled_bytes 1) clusters))

-- ---- clusters and their endpoints

-- a Cluster (name 1, type 2, eds_cluster_config 3) of the type EDS, which is 3, whose eds_config 1 has ads 3
abbrev pub cluster_form : List ℕ → List ℕ
cluster_form name = text_field 1 name ++ spelled_uint 2 3 ++ spelled_bytes 3 (spelled_bytes 1 (spelled_bytes 3 []))

-- an LbEndpoint (endpoint 1) with an address (Endpoint: address 1; Address: socket_address 1; SocketAddress: address 2,
-- port_value 3)
abbrev pub endpoint_form : List ℕ → ℕ → List ℕ
endpoint_form host port = spelled_bytes 1 (spelled_bytes 1 (spelled_bytes 1 (text_field 2 host ++ number_field 3 port)))

-- LocalityLbEndpoints: locality 1 (Locality: zone 2), lb_endpoints 2, load_balancing_weight 3 (UInt32Value: value 1), priority 5
abbrev pub locality_form : ℕ → List ℕ → ℕ → List (List ℕ) → List ℕ
locality_form priority zone weight endpoints =
    spelled_bytes 1 (text_field 2 zone) ++ flat_map (spelled_bytes 2) endpoints
    ++ spelled_bytes 3 (number_field 1 weight) ++ number_field 5 priority

-- ClusterLoadAssignment: cluster_name 1, endpoints 2
abbrev pub assignment_form : List ℕ → List (List ℕ) → List ℕ
assignment_form name localities = text_field 1 name ++ flat_map (spelled_bytes 2) localities
