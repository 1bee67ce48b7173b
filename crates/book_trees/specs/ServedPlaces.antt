-- The localities of the children that serve calls.
use Rattle.std.specs.Prelude.{List, []}
use Rattle.std.specs.Option.{option_map_or}
use Rattle.xds_config.specs.declared.endpoint_values.Locality.{Locality}
use Rattle.xds_history.specs.config_assembly.Orders.{Name}
use Rattle.xds_history.specs.declared.page.Tree.{Tree}
use Rattle.xds_history.specs.declared.page.ClusterTrees.{ClusterTrees}
use Rattle.xds_history.specs.Trees.{chosen_child, trees_of}
use Rattle.xds_history.specs.Pickers.{child_localities}

-- the localities of the chosen child of a tree, and of a cluster's serving tree
abbrev pub served_localities : Tree → List Locality
served_localities tree = option_map_or (λ c. child_localities tree c.0) (chosen_child tree) []

abbrev pub served_in : List ClusterTrees → Name → List Locality
served_in trees cluster = option_map_or (λ pair. served_localities pair.serving) (trees_of cluster trees) []
