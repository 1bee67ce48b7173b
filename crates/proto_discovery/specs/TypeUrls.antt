-- The type URLs of Envoy's v3 API that are read and written.
use Rattle.std.specs.Prelude.{ℕ, List, [], ◌∷◌, Option, codes, find}
use Rattle.std.specs.Str.{bytes_eq}
use Rattle.xc_base.specs.declared.names.Kind.{Kind}
use Rattle.xc_base.specs.declared.names.Kind.TheVariants.{Listener, Route, Cluster, Endpoint}

unfoldable pub listener_url : List ℕ
listener_url = codes "type.googleapis.com/envoy.config.listener.v3.Listener"

unfoldable pub route_url : List ℕ
route_url = codes "type.googleapis.com/envoy.config.route.v3.RouteConfiguration"

unfoldable pub cluster_url : List ℕ
cluster_url = codes "type.googleapis.com/envoy.config.cluster.v3.Cluster"

unfoldable pub endpoint_url : List ℕ
endpoint_url = codes "type.googleapis.com/envoy.config.endpoint.v3.ClusterLoadAssignment"

-- the wrapper that names a resource
unfoldable pub wrapper_url : List ℕ
wrapper_url = codes "type.googleapis.com/envoy.service.discovery.v3.Resource"

-- the connection manager in a listener
unfoldable pub manager_url : List ℕ
manager_url = codes "type.googleapis.com/envoy.extensions.filters.network.http_connection_manager.v3.HttpConnectionManager"

-- the configuration of an aggregate cluster
unfoldable pub aggregate_url : List ℕ
aggregate_url = codes "type.googleapis.com/envoy.extensions.clusters.aggregate.v3.ClusterConfig"

abbrev pub type_url_of : Kind → List ℕ
type_url_of Listener = listener_url
type_url_of Route = route_url
type_url_of Cluster = cluster_url
type_url_of Endpoint = endpoint_url

-- the kind whose type URL it is
abbrev pub kind_of : List ℕ → Option Kind
kind_of url = find (λ kind. bytes_eq url (type_url_of kind)) (Listener ∷ Route ∷ Cluster ∷ Endpoint ∷ [])
