-- The places of the clusters of a configuration by their names.
use Rattle.std.specs.Prelude.{◌≡◌, ℕ, List, Option, Some, None, slice_get, position, bytes_eq}
use Rattle.std.specs.Ordering.{is_eq}
use Rattle.std.specs.Map.{lookup}
use Rattle.xds_config.specs.declared.config.ClusterEntry.{ClusterEntry}
use Rattle.book_trees.specs.config_assembly.Orders.{Name, name_cmp}

-- the place of the cluster of this name
abbrev pub place_named : List (Name × ℕ) → Name → Option ℕ
place_named places name = lookup (λ other. is_eq (name_cmp name other)) places

-- each cluster is found at its place by its name, and no other name is found
pub record ArePlacesOf (clusters : List ClusterEntry) (places : List (Name × ℕ)) : Type 0 where
  pub each : (place : ℕ) (entry : ClusterEntry) → slice_get clusters place ≡ Some entry → place_named places entry.name ≡ Some place
  pub others : (name : Name) → position (λ c. bytes_eq c.name name) clusters ≡ None → place_named places name ≡ None
