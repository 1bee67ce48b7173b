-- What holds of the value of a resource of any kind that passed its checks.
use Rattle.std.specs.Prelude.{◌≢◌, []}
use Rattle.xc_base.specs.declared.names.Kind.{Kind}
use Rattle.xc_base.specs.declared.names.Kind.TheVariants.{Listener as ListenerKind, Route as RouteKind, Cluster as ClusterKind, Endpoint as EndpointKind}
use Rattle.xds_config.specs.declared.value.Value.{Value}
use Rattle.xds_config.specs.declared.value.Value.TheVariants.{Listener, Route, Cluster, Endpoint}
use Rattle.xds_config.specs.Listeners.{IsLawfulListener}
use Rattle.xds_config.specs.RouteValues.{IsLawfulRouteValue}
use Rattle.xds_config.specs.Clusters.{IsLawfulCluster}
use Rattle.xds_config.specs.Endpoints.{IsLawfulEndpoints}

abbrev pub IsLawfulValue : Value → Type 0
IsLawfulValue (Listener value) = IsLawfulListener value
IsLawfulValue (Route value) = (value.name ≢ []) × IsLawfulRouteValue value
IsLawfulValue (Cluster value) = IsLawfulCluster value
IsLawfulValue (Endpoint value) = IsLawfulEndpoints value

-- the kind of resource that it is the value of
abbrev pub kind_of : Value → Kind
kind_of (Listener value) = ListenerKind
kind_of (Route value) = RouteKind
kind_of (Cluster value) = ClusterKind
kind_of (Endpoint value) = EndpointKind
