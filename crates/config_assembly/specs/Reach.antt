-- What is reached: the listener, its routes, the clusters on chains, and their endpoints (gRFC A74, A37).
use Rattle.std.specs.Prelude.{ℕ, zero, suc, List, [], ◌∷◌, ◌++◌, map, Bool, true, false, Option, Some, None, option_to_list, unwrap_or}
use Rattle.std.specs.List.{filter_map, find, flat_map}
use Rattle.xc_base.specs.declared.names.Kind.{Kind}
use Rattle.xc_base.specs.declared.names.Key.{Key}
use Rattle.xc_keys.specs.Keys.{key_cmp}
use Rattle.xds_config.specs.declared.value.Value.{Value}
use Rattle.xds_config.specs.declared.cluster_values.Shape.{Shape}
use Rattle.aggregate_expand.specs.Chains.{Table, longest_chain}
use Rattle.xds_cache.specs.declared.fate.Known.{Known}
use Rattle.config_assembly.specs.Orders.{Name, name_cmp, sorted}
use Rattle.config_assembly.specs.ReachedResources.{Resources, cluster_fate}
use Rattle.config_assembly.specs.Front.{front, named_routes, names_of}

abbrev pub children_in : Shape → Option (List Name)
children_in (Shape.Aggregate clusters) = Some clusters
children_in (Shape.Eds service) = None

-- the children of an aggregate that has a value
abbrev pub children_of : Known → Option (List Name)
children_of (Known.Value (Value.Cluster cluster)) = children_in cluster.shape
children_of _ = None

-- the service name, or the cluster's own where that is empty
abbrev pub endpoint_name_in : Name → Shape → Option Name
endpoint_name_in name (Shape.Eds []) = Some name
endpoint_name_in name (Shape.Eds (b ∷ bs)) = Some (b ∷ bs)
endpoint_name_in name (Shape.Aggregate clusters) = None

-- the name of the Endpoint resource of an EDS cluster that has a value
abbrev pub endpoint_name : Known → Option Name
endpoint_name (Known.Value (Value.Cluster cluster)) = endpoint_name_in cluster.name cluster.shape
endpoint_name _ = None

-- the children of each aggregate
abbrev pub aggregates : Resources → Table
aggregates r name = children_of (cluster_fate r name)

abbrev pub children_among : Table → Name → List Name
children_among table name = unwrap_or (table name) []

-- the clusters on chains of at most so many clusters that begin with one of these
abbrev pub on_chains : Table → ℕ → List Name → List Name
on_chains table zero names = []
on_chains table (suc more) names = names ++ on_chains table more (sorted name_cmp (flat_map (children_among table) names))

-- the clusters that the front's host names or that a call refers to
abbrev pub roots : Resources → List Name → List Name
roots r references = sorted name_cmp (names_of (front r) ++ references)

-- the clusters on chains that begin with one of these
abbrev pub reached_clusters : Resources → List Name → List Name
reached_clusters r references = sorted name_cmp (on_chains (aggregates r) longest_chain (roots r references))

-- the names of the Endpoint resources of clusters
abbrev pub endpoint_names : Resources → List Name → List Name
endpoint_names r clusters = filter_map (λ name. endpoint_name (cluster_fate r name)) clusters

abbrev pub keys_with : Resources → List Name → List Key
keys_with r clusters =
    r.target.key ∷ (map (r.key Kind.Route) (option_to_list (named_routes (r.fate r.target.key)))
    ++ (map (r.key Kind.Cluster) clusters
    ++ map (r.key Kind.Endpoint) (endpoint_names r clusters)))

-- the keys that are reached, in order, each once
abbrev pub reach : Resources → List Name → List Key
reach r references = sorted key_cmp (keys_with r (reached_clusters r references))

abbrev pub is_wanted : Known → Bool
is_wanted Known.Wanted = true
is_wanted _ = false

-- the least of them that is awaited
abbrev pub missing : (Key → Known) → List Key → Option Key
missing fate keys = find (λ key. is_wanted (fate key)) keys
