-- The whole configuration (gRFC A74, A37).
use Rattle.std.specs.Prelude.{List, map, ◌++◌, Bool, Option, Some, None, Result, Ok, Err, is_some, option_map}
use Rattle.xc_base.specs.declared.names.Kind.{Kind}
use Rattle.xc_base.specs.declared.names.Key.{Key}
use Rattle.xc_base.specs.declared.reason.Reason.{Reason}
use Rattle.xds_config.specs.declared.value.Value.{Value}
use Rattle.xds_config.specs.declared.endpoint_values.EndpointValue.{EndpointValue}
use Rattle.xds_config.specs.declared.config.Front.{Front}
use Rattle.xds_config.specs.declared.config.Leaf.{Leaf}
use Rattle.xds_config.specs.declared.config.Leaves.{Leaves}
use Rattle.xds_config.specs.declared.config.ClusterEntry.{ClusterEntry}
use Rattle.xds_config.specs.declared.config.Config.{Config}
use Rattle.aggregate_expand.specs.declared.expand_fault.ExpandFault.{ExpandFault}
use Rattle.aggregate_expand.specs.Leaves.{leaves_of}
use Rattle.xds_cache.specs.declared.fate.Known.{Known}
use Rattle.config_assembly.specs.Orders.{Name, name_cmp, sorted}
use Rattle.config_assembly.specs.ReachedResources.{Resources, cluster_fate, reason_of}
use Rattle.config_assembly.specs.Front.{front, names_of_front}
use Rattle.config_assembly.specs.Reach.{aggregates, children_of, endpoint_name}

abbrev pub endpoints_of : Known → Result EndpointValue Reason
endpoints_of (Known.Value (Value.Endpoint endpoints)) = Ok endpoints
endpoints_of fate = Err (reason_of fate)

-- a leaf has its Endpoint value, or the reason of its own fate or of its Endpoint key's
abbrev pub leaf_state : Resources → Known → Option Name → Result EndpointValue Reason
leaf_state r own None = Err (reason_of own)
leaf_state r own (Some name) = endpoints_of (r.fate (r.key Kind.Endpoint name))

abbrev pub leaf_of : Resources → Name → Leaf
leaf_of r name = record { name = name; state = leaf_state r (cluster_fate r name) (endpoint_name (cluster_fate r name)) }

-- where the leaves can't be told, a chain of 17 clusters begins with the cluster
abbrev pub leaves_state : Resources → Bool → Result (List Name) ExpandFault → Result Leaves Reason
leaves_state r aggregate (Err fault) = Err Reason.Depth
leaves_state r aggregate (Ok names) = Ok record { aggregate = aggregate; leaves = map (leaf_of r) names }

-- the reason of the cluster's fate, else that a chain is too long, else its leaves
abbrev pub cluster_state : Resources → Name → Known → Result Leaves Reason
cluster_state r name (Known.Value value) = leaves_state r (is_some (children_of (Known.Value value))) (leaves_of (aggregates r) name)
cluster_state r name own = Err (reason_of own)

abbrev pub cluster_entry : Resources → Name → ClusterEntry
cluster_entry r name = record { name = name; state = cluster_state r name (cluster_fate r name) }

-- the front, and the clusters that its host names or that calls refer to, in order, each once
abbrev pub config_with : Resources → List Name → Result Front Reason → Config
config_with r references found =
    record { front = found; clusters = map (cluster_entry r) (sorted name_cmp (names_of_front found ++ references)) }

abbrev pub whole_config : Resources → List Name → Option Config
whole_config r references = option_map (config_with r references) (front r)

-- there is one exactly where no reached key is awaited
abbrev pub config_where : Option Key → Resources → List Name → Option Config
config_where None r references = whole_config r references
config_where (Some key) r references = None

-- the same with a front that was found, and the names of its clusters
abbrev pub config_from : Option Key → Resources → List Name → Option (Result Front Reason) → Option Config
config_from None r names found = option_map (λ front. record { front = front; clusters = map (cluster_entry r) names }) found
config_from (Some key) r names found = None
