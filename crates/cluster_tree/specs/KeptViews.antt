-- What is kept of what is seen of clusters.
use Rattle.std.specs.Prelude.{◌≡◌, ◌<◌, ◌≤◌, ℕ, Bool, false, List, length, get_or, slice_get, IfSome, Result}
use Rattle.xc_base.specs.declared.reason.Reason.{Reason}
use Rattle.tree_steps.specs.declared.tree_view.TreeView.{TreeView}
use Rattle.cluster_tree.specs.declared.cluster_trees.Cluster.{Cluster}
use Rattle.cluster_tree.specs.ViewChanges.{seen_of}

-- the view at a cluster's place, if there is one, is what is seen of the cluster, where it has no mark
abbrev pub StayBut : List Bool → List (Result TreeView Reason) → List Cluster → Type 0
StayBut marks views clusters = (place : ℕ) (d : Cluster) → place < length clusters → get_or marks place false ≡ false → IfSome (slice_get views place) (λ view. view ≡ seen_of (get_or clusters place d))

-- so for each cluster
abbrev pub AreViewsIn : List (Result TreeView Reason) → List Cluster → Type 0
AreViewsIn views clusters = (place : ℕ) (d : Cluster) → place < length clusters → IfSome (slice_get views place) (λ view. view ≡ seen_of (get_or clusters place d))

-- so many places in front stand before an end, and the next one doesn't
pub record IsCountBefore (places : List ℕ) (end count : ℕ) : Type 0 where
  pub within : count ≤ length places
  pub before : (k d : ℕ) → k < count → get_or places k d < end
  pub stops : (d : ℕ) → count < length places → end ≤ get_or places count d
