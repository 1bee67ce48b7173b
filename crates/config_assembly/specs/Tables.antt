-- The children of aggregates, kept by name.
use Rattle.std.specs.Prelude.{◌≡◌, List, Option, Some, None, IfSome, if◌then◌else◌, option_and_then}
use Rattle.std.specs.Map.{lookup}
use Rattle.std.specs.Ordering.{is_eq}
use Rattle.xds_config.specs.declared.value.Value.{Value}
use Rattle.xds_config.specs.declared.cluster_values.ClusterValue.{ClusterValue}
use Rattle.xds_config.specs.Clusters.{IsLawfulCluster}
use Rattle.aggregate_expand.specs.LookedUp.{has_name}
use Rattle.aggregate_expand.specs.Chains.{Table}
use Rattle.xds_cache.specs.declared.fate.Known.{Known}
use Rattle.config_assembly.specs.Orders.{Name, name_cmp}
use Rattle.config_assembly.specs.Reach.{children_in}

abbrev pub Rows : Type 0
Rows = List (Name × ClusterValue)

abbrev pub value_at : Rows → Name → Option ClusterValue
value_at rows name = lookup (λ other. is_eq (name_cmp name other)) rows

-- the children of the aggregate of a name
abbrev pub row_at : Rows → Table
row_at rows name = option_and_then (λ cluster. children_in cluster.shape) (value_at rows name)

-- the cluster that is known
abbrev pub cluster_of : Known → Option ClusterValue
cluster_of (Known.Value (Value.Cluster cluster)) = Some cluster
cluster_of _ = None

-- what a table has with one more row, where there is one
abbrev pub with_row : (Name → Option ClusterValue) → Name → Option ClusterValue → Name → Option ClusterValue
with_row before name None other = before other
with_row before name (Some cluster) other = if is_eq (name_cmp name other) then Some cluster else before other

-- the table has the children of these names, and of no other
abbrev pub Holds : Table → List Name → Table → Type 0
Holds table names other = (name : Name) → other name ≡ (if has_name names name then table name else None)

-- each cluster passed its checks
abbrev pub AreLawfulRows : Rows → Type 0
AreLawfulRows rows = (name : Name) → IfSome (value_at rows name) IsLawfulCluster
