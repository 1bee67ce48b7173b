-- The rows of clusters after a driver's entry.
use Rattle.std.specs.Prelude.{◌≡◌, ◌<◌, ℕ, Bool, true, false, List, Option, Some, None, Result, Ok, Err, length, get_or, slice_get}
use Rattle.std.specs.Option.{option_map_or}
use Rattle.xc_base.specs.declared.names.State.{State}
use Rattle.xc_base.specs.declared.reason.Reason.{Reason}
use Rattle.xds_config.specs.declared.config.ClusterEntry.{ClusterEntry}
use Rattle.xds_config.specs.declared.config.Config.{Config}
use Rattle.xds_config.specs.declared.config.Leaves.{Leaves}
use Rattle.tree_steps.specs.declared.tree_view.NamedChild.{NamedChild}
use Rattle.tree_steps.specs.declared.tree_view.TreeView.{TreeView}
use Rattle.cluster_tree.specs.declared.snapshot.Snapshot.{Snapshot}
use Rattle.cluster_tree.specs.StandingTrees.{Forest}
use Rattle.cluster_tree.specs.ViewChanges.{localities_at}
use Rattle.call_journal.specs.declared.event.DriverEvent.{DriverEvent}
use Rattle.call_journal.specs.declared.reply.DriverReply.{DriverReply}
use Rattle.call_journal.specs.declared.entry.What.{What}
use Rattle.call_journal.specs.declared.entry.Entry.{Entry}
use Rattle.book_trees.specs.config_assembly.Orders.{Name}
use Rattle.book_trees.specs.xds_history.Setting.{Setting}
use Rattle.book_trees.specs.xds_history.declared.page.ClusterTrees.{ClusterTrees}
use Rattle.book_trees.specs.xds_history.declared.page.Page.{Page}
use Rattle.book_trees.specs.xds_history.Page.{config_now, trees_now}
use Rattle.book_trees.specs.xds_history.Pages.{page_of, pages}
use Rattle.book_trees.specs.xds_history.Pickers.{cluster_view}
use Rattle.book_trees.specs.TreesKept.{cluster_names, clusters_of}
use Rattle.book_picks.specs.declared.place_counts.PlaceKey.{PlaceKey}
use Rattle.book_picks.specs.declared.kept_turns.Turns.{Turns}
use Rattle.book_picks.specs.CountedPlaces.{Extends}
use Rattle.book_picks.specs.ClusterRows.{keys_of}
use Rattle.book_picks.specs.ChosenPlaces.{localities_served}
use Rattle.book_picks.specs.TurnsKept.{HasRow}

-- the chosen child that is seen
abbrev pub child_seen : Result TreeView Reason → Option NamedChild
child_seen (Ok view) = slice_get view.children view.chosen
child_seen (Err reason) = None

abbrev pub view_at : Snapshot → ℕ → Result TreeView Reason
view_at snapshot place = option_map_or (λ seen. seen) (slice_get snapshot.trees place) (Err Reason.Failing)

-- the localities of the chosen child of the cluster at a place, which has this name
abbrev pub keys_at : Forest → Snapshot → ℕ → Name → List PlaceKey
keys_at forest snapshot place name = keys_of name (child_seen (view_at snapshot place)) (localities_at forest place)

-- places that are marked, and had rows, have those by what is seen now, and the others have those from before
pub record AreRenewed (forest : Forest) (snapshot : Snapshot) (marks : List Bool) (old new : Turns) : Type 0 where
  pub fresh : (place : ℕ) (entry : ClusterEntry) → slice_get snapshot.config.clusters place ≡ Some entry → get_or marks place false ≡ true → place < length old.rows.items → HasRow new place (keys_at forest snapshot place entry.name)
  pub kept : (place : ℕ) (keys : List PlaceKey) → get_or marks place false ≡ false → HasRow old place keys → HasRow new place keys
  pub places : new.places ≡ old.places
  pub extends : Extends old.counts new.counts

-- what is seen of a cluster stays, and so do the localities of its chosen child
pub record StaysServed (before after : List ClusterTrees) (entry : ClusterEntry) : Type 0 where
  pub states_before : Name → State
  pub states_after : Name → State
  pub view : cluster_view states_before before entry ≡ cluster_view states_after after entry
  pub localities : localities_served before entry ≡ localities_served after entry

-- the forest has the localities that are served of each cluster
abbrev pub ServesLocalities : Forest → Config → List ClusterTrees → Type 0
ServesLocalities forest config trees = (place : ℕ) (entry : ClusterEntry) (leaves : Leaves) → slice_get config.clusters place ≡ Some entry → entry.state ≡ Ok leaves → localities_at forest place ≡ localities_served trees entry

-- a cluster that isn't marked is the one that stood at its place, and what is served of it stays
pub record IsUnmoved (config : Option Config) (before after : List ClusterTrees) (place : ℕ) (entry : ClusterEntry) : Type 0 where
  pub entry_stays : slice_get (clusters_of config) place ≡ Some entry
  pub stays : StaysServed before after entry

-- the clusters have the names of those from before, place by place, and each one that isn't marked stays as it was
pub record AreMarksOf (marks : List Bool) (config : Config) (before : List Page) (after : List ClusterTrees) : Type 0 where
  pub names_stay : cluster_names (config_now before) ≡ cluster_names (Some config)
  pub stay : (place : ℕ) (entry : ClusterEntry) → slice_get config.clusters place ≡ Some entry → get_or marks place false ≡ false → IsUnmoved (config_now before) (trees_now before) after place entry

-- a driver's entry at which this snapshot is published
pub record IsPublishedAt (s : Setting) (past : List Entry) (e : Entry) (snapshot : Snapshot) : Type 0 where
  pub event : DriverEvent
  pub reply : DriverReply
  pub what_is : e.what ≡ What.Driver event reply
  pub snapshot_is : (page_of s e e.what past (pages s past)).snapshot ≡ Some snapshot
