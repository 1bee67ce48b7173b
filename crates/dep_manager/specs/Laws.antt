-- Laws of what is reached.
use Rattle.std.specs.Prelude.{◌≡◌, ◌⊎◌, ℕ, ◌<◌, List, Bool, Some, Contains, length}
use Rattle.xc_base.specs.declared.names.Kind.{Kind}
use Rattle.xc_base.specs.declared.names.Key.{Key}
use Rattle.aggregate_expand.specs.Chains.{led_to, longest_chain}
use Rattle.xds_cache.specs.declared.fate.Known.{Known}
use Rattle.config_assembly.specs.Orders.{Name}
use Rattle.config_assembly.specs.ReachedResources.{Resources, cluster_fate}
use Rattle.config_assembly.specs.Front.{named_routes}
use Rattle.config_assembly.specs.Reach.{aggregates, endpoint_name, missing, reach, roots}
use Rattle.config_assembly.specs.WholeConfigs.{whole_config}
use Rattle.config_assembly.specs.Watching.{has_key}

-- the same resources, of which this is known
abbrev pub with_fates : Resources → (Key → Known) → Resources
with_fates r fate = record { target = r.target; key = r.key; fate = fate }

-- the same is known of these keys
abbrev pub AgreeAt : List Key → (Key → Known) → (Key → Known) → Type 0
AgreeAt keys fate other = (key : Key) → has_key keys key ≡ Bool.true → other key ≡ fate key

-- what is reached, awaited and configured
pub record IsSame (r other : Resources) (references : List Name) : Type 0 where
  pub reached : reach other references ≡ reach r references
  pub missing : missing other.fate (reach other references) ≡ missing r.fate (reach r references)
  pub config : whole_config other references ≡ whole_config r references

-- ---- by chains (gRFC A74, A37)

-- the cluster ends a chain of at most 16 clusters, each next one a child of the aggregate before it, that begins
-- with one that the front's host names or that a call refers to
abbrev pub IsOnChain : Resources → List Name → Name → Type 0
IsOnChain r references cluster = (root : Name) × (path : List ℕ) × Contains (roots r references) root × (length path < longest_chain) × (led_to (aggregates r) path root ≡ Some cluster)

-- the key of the Route resource that the listener's value names
abbrev pub IsRouteKey : Resources → Key → Type 0
IsRouteKey r key = (name : Name) × (named_routes (r.fate r.target.key) ≡ Some name) × (key ≡ r.key Kind.Route name)

-- the key of a cluster on a chain
abbrev pub IsClusterKey : Resources → List Name → Key → Type 0
IsClusterKey r references key = (cluster : Name) × IsOnChain r references cluster × (key ≡ r.key Kind.Cluster cluster)

-- the key of the endpoints of a cluster on a chain that has an EDS value: that of its service name, or of its own
-- name where that is empty
abbrev pub IsEndpointKey : Resources → List Name → Key → Type 0
IsEndpointKey r references key = (cluster : Name) × (name : Name) × IsOnChain r references cluster × (endpoint_name (cluster_fate r cluster) ≡ Some name) × (key ≡ r.key Kind.Endpoint name)

-- the listener's key, and those to which it and the chains of clusters lead
abbrev pub IsReached : Resources → List Name → Key → Type 0
IsReached r references key = (key ≡ r.target.key) ⊎ (IsRouteKey r key ⊎ (IsClusterKey r references key ⊎ IsEndpointKey r references key))
