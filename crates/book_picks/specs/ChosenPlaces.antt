-- The places of a cluster's chosen child, where endpoints take turns.
use Rattle.std.specs.Prelude.{List, [], map, Result, Ok, Err}
use Rattle.std.specs.Option.{option_map_or}
use Rattle.xc_base.specs.declared.reason.Reason.{Reason}
use Rattle.xds_config.specs.declared.endpoint_values.Locality.{Locality}
use Rattle.xds_config.specs.declared.config.Leaves.{Leaves}
use Rattle.xds_config.specs.declared.config.ClusterEntry.{ClusterEntry}
use Rattle.priority_lb.specs.ChildHistories as children
use Rattle.book_trees.specs.config_assembly.Orders.{Name}
use Rattle.book_trees.specs.xds_history.declared.page.Tree.{Tree}
use Rattle.book_trees.specs.xds_history.declared.page.ClusterTrees.{ClusterTrees}
use Rattle.book_trees.specs.xds_history.Trees.{chosen_child, trees_of}
use Rattle.book_trees.specs.xds_history.Pickers.{child_localities}
use Rattle.book_trees.specs.xds_history.Picks.{Place, place_at}
use Rattle.book_picks.specs.declared.place_counts.PlaceKey.{PlaceKey}

abbrev pub key_of : Place → PlaceKey
key_of place = record {
  cluster = place.cluster;
  leaf = place.child.0;
  priority = place.child.1;
  region = place.locality.region;
  zone = place.locality.zone;
  sub_zone = place.locality.sub_zone;
}

-- the localities of a child, of a tree's chosen child, of a cluster's serving tree
abbrev pub places_of_child : Name → Tree → children.Name → List Place
places_of_child cluster tree child = map (place_at cluster child) (child_localities tree child)

abbrev pub places_of_tree : Name → Tree → List Place
places_of_tree cluster tree = option_map_or (λ c. places_of_child cluster tree c.0) (chosen_child tree) []

abbrev pub places_of : Name → List ClusterTrees → List Place
places_of cluster trees = option_map_or (λ pair. places_of_tree cluster pair.serving) (trees_of cluster trees) []

-- the localities themselves
abbrev pub localities_of_tree : Tree → List Locality
localities_of_tree tree = option_map_or (λ c. child_localities tree c.0) (chosen_child tree) []

abbrev pub localities_served : List ClusterTrees → ClusterEntry → List Locality
localities_served trees entry = option_map_or (λ pair. localities_of_tree pair.serving) (trees_of entry.name trees) []

-- a cluster in error serves none
abbrev pub served : List ClusterTrees → ClusterEntry → List Place
served trees entry = in_state entry.state
  where
    in_state : Result Leaves Reason → List Place
    in_state (Err reason) = []
    in_state (Ok leaves) = places_of entry.name trees
