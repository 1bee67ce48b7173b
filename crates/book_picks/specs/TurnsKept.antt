-- What is kept of picks, and what it is of the history.
use Rattle.std.specs.Prelude.{◌≡◌, ℕ, List, map, Option, Some, option_map, slice_get}
use Rattle.xc_base.specs.declared.names.CallId.{CallId}
use Rattle.xds_config.specs.declared.config.ClusterEntry.{ClusterEntry}
use Rattle.cluster_tree.specs.declared.snapshot.Snapshot.{Snapshot}
use Rattle.book_trees.specs.config_assembly.Orders.{Name}
use Rattle.book_trees.specs.xds_history.declared.page.ClusterTrees.{ClusterTrees}
use Rattle.book_trees.specs.xds_history.declared.page.Page.{Page}
use Rattle.book_trees.specs.xds_history.Page.{config_now, trees_now, latest}
use Rattle.book_trees.specs.xds_history.References.{held}
use Rattle.book_trees.specs.xds_history.Trees.{Present}
use Rattle.book_trees.specs.xds_history.Right.{standing, shown}
use Rattle.book_trees.specs.xds_history.Picks.{Place, turn}
use Rattle.book_trees.specs.TreesKept.{clusters_of}
use Rattle.book_picks.specs.declared.place_counts.PlaceKey.{PlaceKey}
use Rattle.book_picks.specs.declared.cluster_rows.Row.{Row}
use Rattle.book_picks.specs.declared.kept_turns.Turns.{Turns}
use Rattle.book_picks.specs.CountedPlaces.{AreNumbered, count_of}
use Rattle.book_picks.specs.ClusterRows.{AreIndexesOf}
use Rattle.book_picks.specs.NamedPlaces.{ArePlacesOf}
use Rattle.book_picks.specs.ChosenPlaces.{key_of, served}

-- the cluster at a place has a row: where the counts of these localities stand
pub record HasRow (turns : Turns) (place : ℕ) (keys : List PlaceKey) : Type 0 where
  pub row : Row
  pub found : slice_get turns.rows.items place ≡ Some row
  pub indexes_are : AreIndexesOf turns.counts row.indexes keys

-- each cluster has its row at its place, where it is found by its name, and no other name is found
pub record AreRowsOf (clusters : List ClusterEntry) (trees : List ClusterTrees) (turns : Turns) : Type 0 where
  pub each : (place : ℕ) (entry : ClusterEntry) → slice_get clusters place ≡ Some entry → HasRow turns place (map key_of (served trees entry))
  pub places : ArePlacesOf clusters turns.places.entries

-- after these entries: each count is the turn of its place, and the rows are those of the clusters that stand
pub record AreTurnsAt (ps : List Page) (turns : Turns) : Type 0 where
  pub numbered : AreNumbered turns.counts
  pub counted : (place : Place) → count_of turns.counts (key_of place) ≡ turn place ps
  pub rows : AreRowsOf (clusters_of (config_now ps)) (trees_now ps) turns

-- the call holds this cluster, or none, and this is the latest snapshot, which shows what stands
pub record IsPickAt (ps : List Page) (id : CallId) (cluster : Option Name) (snapshot : Option Snapshot) : Type 0 where
  pub held_is : held ps id ≡ cluster
  pub latest_is : latest ps ≡ snapshot
  pub present : Present
  pub shows : standing present (config_now ps) (trees_now ps) ≡ option_map shown snapshot
