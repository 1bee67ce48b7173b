-- What is seen of clusters after an update, and which of it differs from before.
use Rattle.std.specs.Prelude.{◌≡◌, ◌<◌, ℕ, Bool, true, false, List, [], length, get_or, slice_get, All, IfOk, Result, Ok, Err, Option, Some, None, option_map}
use Rattle.std.specs.Option.{option_map_or}
use Rattle.xc_base.specs.declared.reason.Reason.{Reason}
use Rattle.xds_config.specs.declared.endpoint_values.Locality.{Locality}
use Rattle.weighted_lb.specs.Pick.{IsPickable}
use Rattle.tree_steps.specs.declared.tree_view.TreeView.{TreeView}
use Rattle.tree_steps.specs.TreeSteps.{chosen_localities}
use Rattle.cluster_tree.specs.declared.cluster_trees.Cluster.{Cluster}
use Rattle.cluster_tree.specs.declared.cluster_trees.Standing.{Standing}
use Rattle.cluster_tree.specs.StandingTrees.{Forest, cluster_named, trees_of, view_in}

-- what is seen of a cluster: its trees, or the reason why it has none
abbrev pub seen_of : Cluster → Result TreeView Reason
seen_of cluster = view_in cluster.state

-- what was seen of the cluster of this name
abbrev pub seen_named : List ℕ → List Cluster → Option (Result TreeView Reason)
seen_named name clusters = option_map seen_of (cluster_named name clusters)

abbrev pub tree_view_in : Result Standing Reason → Option TreeView
tree_view_in (Ok standing) = Some standing.view
tree_view_in (Err reason) = None

-- what was seen of a cluster's trees, if it had some
abbrev pub tree_view_of : Cluster → Option TreeView
tree_view_of cluster = tree_view_in cluster.state

-- the mark is set exactly where what is seen now differs from before, or nothing was seen before
pub record IsChangeMark {A : Type 0} (mark : Bool) (before : Option A) (now : A) : Type 0 where
  pub stays : mark ≡ false → before ≡ Some now
  pub differs : mark ≡ true → before ≡ Some now → ⊥

-- each cluster has a mark of whether what is seen of it differs from what was seen of the cluster of its name
pub record MarkChanges (marks : List Bool) (old new : List Cluster) : Type 0 where
  pub count : length marks ≡ length new
  pub each : (place : ℕ) (d : Cluster) → place < length new → IsChangeMark (get_or marks place false) (seen_named (get_or new place d).entry.name old) (seen_of (get_or new place d))

-- each cluster has a mark of whether what is seen of it differs from what was seen of the cluster at its place
pub record MarkChangesInPlace (marks : List Bool) (old new : List Cluster) : Type 0 where
  pub count : length marks ≡ length new
  pub each : (place : ℕ) (d : Cluster) → place < length new → IsChangeMark (get_or marks place false) (Some (seen_of (get_or old place d))) (seen_of (get_or new place d))

-- picks can be made from each view
abbrev pub ArePickable : List (Result TreeView Reason) → Type 0
ArePickable views = All (λ seen. IfOk seen (λ view. IsPickable view.picker)) views

-- the localities of the chosen child of a cluster's serving tree; a cluster without trees has none
abbrev pub served_localities : Cluster → List Locality
served_localities cluster = option_map_or (λ trees. chosen_localities trees.serving) (trees_of cluster) []

-- those of the cluster at a place
abbrev pub localities_at : Forest → ℕ → List Locality
localities_at forest place = option_map_or served_localities (slice_get forest.clusters place) []
