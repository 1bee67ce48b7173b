-- The check of a cluster or of its endpoints stops at no text.
use Rattle.std.proofs.Common.{◌≡◌, ℕ, List, [], ◌∷◌, Bool, Option, Some, None, refl, filter}
use Rattle.std.specs.Prelude.{◌==◌, ◌&&◌, not, bytes_eq, codes, unwrap_or, Result, Ok, Err}
use Rattle.xc_base.specs.Addresses.{address_of}
use Rattle.xc_base.specs.declared.reason.Reason.TheVariants as reason
use Rattle.proto_discovery.specs.Any.{empty_any}
use Rattle.proto_discovery.specs.TypeUrls.{aggregate_url}
use Rattle.proto_cluster.specs.Aggregate.{aggregate_of}
use Rattle.proto_cluster.specs.declared.cluster.RawCluster.{RawCluster}
use Rattle.proto_cluster.specs.declared.cluster.RawClusterType.{RawClusterType}
use Rattle.proto_cluster.specs.declared.cluster.RawClusterOne.{RawClusterOne}
use Rattle.proto_cluster.specs.declared.cluster.RawClusterOne.TheVariants.{Discovery, ClusterType}
use Rattle.proto_cluster.specs.declared.assignment.RawDrop.{RawDrop}
use Rattle.proto_cluster.specs.declared.assignment.RawAssignment.{RawAssignment}
use Rattle.proto_cluster.specs.declared.endpoint.RawSocket.{RawSocket}
use Rattle.proto_cluster.specs.declared.endpoint.RawAddress.{RawAddress}
use Rattle.proto_cluster.specs.declared.endpoint.RawEndpoint.{RawEndpoint}
use Rattle.proto_cluster.specs.declared.endpoint.RawLbEndpoint.{RawLbEndpoint}
use Rattle.proto_cluster.specs.declared.locality.RawLocalityLbEndpoints.{RawLocalityLbEndpoints}
use Rattle.xds_config.specs.declared.endpoint_values.Locality.{Locality}
use Rattle.xds_name.specs.Names.{is_xdstp}
use Rattle.check_steps.specs.CallFractions.{part_of}
use Rattle.check_steps.specs.ResourceNames.{is_nothing, required_name}
use Rattle.check_steps.specs.Sources.{is_sourced}
use Rattle.check_steps.specs.TableSteps.{◌>>=◌, demand, each, readable}
use Rattle.check_steps.proofs.FairLemmas.{IsFair, fair_demand, fair_each, fair_name, fair_part, fair_readable, fair_then}
use Rattle.check_clusters.specs.ClusterTable.{aggregate_shape, cluster_value, eds_of, eds_shape, shape_of}
use Rattle.check_clusters.specs.Assignments.{address_in, addressed, assignment_value, by_priority, drop_rule_of, drops_in, endpoint_address, endpoint_in, have_no_gap, have_weights, is_healthy, is_weighed, locality_of, socket_address, stand_once, stand_soundly}

-- ---- clusters

fair_aggregate : (refuses : List ℕ → Bool) (raw : RawClusterType) → IsFair refuses (aggregate_shape raw)
unfolding aggregate_shape
fair_aggregate refuses raw =
    let any = unwrap_or raw.typed_config empty_any in
    fair_then refuses (demand (bytes_eq raw.name (codes "envoy.clusters.aggregate")) reason.ClusterKind) _ (fair_demand refuses (bytes_eq raw.name (codes "envoy.clusters.aggregate")) reason.ClusterKind)
    (λ known. fair_then refuses (demand (bytes_eq any.type_url aggregate_url) reason.WrongType) _ (fair_demand refuses (bytes_eq any.type_url aggregate_url) reason.WrongType)
    (λ typed. fair_then refuses (readable (aggregate_of any.value)) _ (fair_readable refuses (aggregate_of any.value))
    (λ children. fair_then refuses (demand (not (is_nothing children)) reason.NoClusters) _ (fair_demand refuses (not (is_nothing children)) reason.NoClusters)
    (λ some. fair_then refuses (each required_name children) _ (fair_each refuses required_name children (fair_name refuses)) (λ clusters. tt)))))

fair_eds : (refuses : List ℕ → Bool) (name : List ℕ) (raw : RawCluster) (discovery : ℕ) → IsFair refuses (eds_shape name raw discovery)
unfolding eds_shape
fair_eds refuses name raw discovery =
    let eds = eds_of raw.eds_cluster_config in
    fair_then refuses (demand (discovery == 3) reason.ClusterKind) _ (fair_demand refuses (discovery == 3) reason.ClusterKind)
    (λ known. fair_then refuses (demand (is_sourced eds.eds_config) reason.ConfigSource) _ (fair_demand refuses (is_sourced eds.eds_config) reason.ConfigSource)
    (λ sourced. fair_then refuses (demand (not (is_xdstp name && is_nothing eds.service_name)) reason.NoName) _ (fair_demand refuses (not (is_xdstp name && is_nothing eds.service_name)) reason.NoName)
    (λ served. fair_then refuses (demand (raw.lb_policy == 0) reason.LbPolicy) _ (fair_demand refuses (raw.lb_policy == 0) reason.LbPolicy) (λ balanced. tt))))

fair_shape : (refuses : List ℕ → Bool) (name : List ℕ) (raw : RawCluster) (one : Option RawClusterOne) → IsFair refuses (shape_of name raw one)
fair_shape refuses name raw None = fair_eds refuses name raw 0
fair_shape refuses name raw (Some (Discovery discovery)) = fair_eds refuses name raw discovery
fair_shape refuses name raw (Some (ClusterType cluster_type)) = fair_aggregate refuses cluster_type

pub fair_cluster_value : (refuses : List ℕ → Bool) (name : List ℕ) (raw : RawCluster) → IsFair refuses (cluster_value name raw)
unfolding cluster_value
fair_cluster_value refuses name raw = fair_then refuses (shape_of name raw raw.one) _ (fair_shape refuses name raw raw.one) (λ shape. tt)

-- ---- endpoints

fair_drop : (refuses : List ℕ → Bool) (drop : RawDrop) → IsFair refuses (drop_rule_of drop)
unfolding drop_rule_of
fair_drop refuses drop = fair_then refuses (part_of drop.drop_percentage) _ (fair_part refuses drop.drop_percentage) (λ part. tt)

fair_addressed : (refuses : List ℕ → Bool) (address : Option (List ℕ)) → IsFair refuses (addressed address)
fair_addressed refuses None = tt
fair_addressed refuses (Some address) = tt

fair_socket : (refuses : List ℕ → Bool) (socket : Option RawSocket) → IsFair refuses (socket_address socket)
fair_socket refuses None = tt
fair_socket refuses (Some socket) = fair_addressed refuses (address_of socket.address socket.port_value)

fair_address : (refuses : List ℕ → Bool) (address : Option RawAddress) → IsFair refuses (address_in address)
fair_address refuses None = tt
fair_address refuses (Some address) = fair_socket refuses address.socket_address

fair_endpoint : (refuses : List ℕ → Bool) (endpoint : Option RawEndpoint) → IsFair refuses (endpoint_in endpoint)
fair_endpoint refuses None = tt
fair_endpoint refuses (Some endpoint) = fair_address refuses endpoint.address

fair_lb_endpoint : (refuses : List ℕ → Bool) (e : RawLbEndpoint) → IsFair refuses (endpoint_address e)
fair_lb_endpoint refuses e = fair_endpoint refuses e.endpoint

fair_locality : (refuses : List ℕ → Bool) (l : RawLocalityLbEndpoints) → IsFair refuses (locality_of l)
unfolding locality_of
fair_locality refuses l =
    fair_then refuses (each endpoint_address (filter is_healthy l.lb_endpoints)) _ (fair_each refuses endpoint_address (filter is_healthy l.lb_endpoints) (fair_lb_endpoint refuses)) (λ addresses. tt)

fair_soundly : (refuses : List ℕ → Bool) (ls : List Locality) → IsFair refuses (stand_soundly ls)
unfolding stand_soundly
fair_soundly refuses ls =
    fair_then refuses (demand (stand_once ls) reason.LocalityTwice) _ (fair_demand refuses (stand_once ls) reason.LocalityTwice)
    (λ once. fair_then refuses (demand (have_weights ls) reason.Weights) _ (fair_demand refuses (have_weights ls) reason.Weights) (λ fit. fair_demand refuses (have_no_gap ls) reason.PriorityGap))

pub fair_assignment_value : (refuses : List ℕ → Bool) (name : List ℕ) (raw : RawAssignment) → IsFair refuses (assignment_value name raw)
unfolding assignment_value
fair_assignment_value refuses name raw =
    fair_then refuses (each drop_rule_of (drops_in raw.policy)) _ (fair_each refuses drop_rule_of (drops_in raw.policy) (fair_drop refuses))
    (λ drops. fair_then refuses (each locality_of (filter is_weighed raw.endpoints)) _ (fair_each refuses locality_of (filter is_weighed raw.endpoints) (fair_locality refuses))
    (λ found. fair_then refuses (stand_soundly (by_priority found)) _ (fair_soundly refuses (by_priority found)) (λ sound. tt)))
