-- The line of a snapshot.
use Rattle.std.specs.Prelude.{ℕ, ◌+◌, ◌++◌, List, [], ◌∷◌, Option, Some, None, Result, Ok, Err, codes, slice_get}
use Rattle.std.specs.Fmt.{decimal}
use Rattle.xc_base.specs.Reasons.{reason_word}
use Rattle.xc_base.specs.declared.reason.Reason.{Reason}
use Rattle.xds_config.specs.declared.config.Front.{Front}
use Rattle.xds_config.specs.declared.config.ClusterEntry.{ClusterEntry}
use Rattle.cluster_tree.specs.declared.snapshot.Snapshot.{Snapshot}
use Rattle.tree_steps.specs.declared.tree_view.TreeView.{TreeView}
use Rattle.tree_text.specs.Escapes.{escaped}
use Rattle.tree_text.specs.TreeText.{tree_text}

abbrev pub front_words : Front → List ℕ
front_words front = escaped front.listener ++ codes "," ++ escaped front.routes.name ++ codes "," ++ decimal front.host

abbrev pub front_text : Result Front Reason → List ℕ
front_text (Ok front) = front_words front
front_text (Err reason) = codes "!" ++ reason_word reason

-- trees that aren't there have no text
abbrev pub found_tree_text : Option (Result TreeView Reason) → List ℕ
found_tree_text None = []
found_tree_text (Some tree) = tree_text tree

-- a cluster with its trees
unfoldable pub cluster_text : ClusterEntry → Option (Result TreeView Reason) → List ℕ
cluster_text cluster tree = codes " " ++ escaped cluster.name ++ codes "=" ++ found_tree_text tree

-- the clusters from this place on, each with the trees of its place
unfoldable pub clusters_from : List (Result TreeView Reason) → ℕ → List ClusterEntry → List ℕ
clusters_from trees place [] = []
clusters_from trees place (cluster ∷ clusters) =
    cluster_text cluster (slice_get trees place) ++ clusters_from trees (place + 1) clusters

unfoldable pub snapshot_line : Snapshot → List ℕ
snapshot_line s =
    codes "  snap " ++ decimal s.number ++ codes " front=" ++ front_text s.config.front ++ clusters_from s.trees 0 s.config.clusters ++ codes "\n"

-- the line of a snapshot, if there is one
abbrev pub snapshot_lines : Option Snapshot → List ℕ
snapshot_lines None = []
snapshot_lines (Some s) = snapshot_line s
