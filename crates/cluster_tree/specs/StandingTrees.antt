-- The trees of the clusters of a configuration, as one step from those before (gRFC A37, A74).
use Rattle.std.specs.Prelude.{◌≡◌, List, [], map, find, ℕ, bytes_eq, Contains, Bool, nat_lt, Result, Ok, Err, Option, Some, None}
use Rattle.std.specs.Option.{option_and_then}
use Rattle.xc_base.specs.declared.names.Time.{Time}
use Rattle.xc_base.specs.declared.reason.Reason.{Reason}
use Rattle.xds_config.specs.declared.config.Leaves.{Leaves}
use Rattle.xds_config.specs.declared.config.ClusterEntry.{ClusterEntry}
use Rattle.graceful_switch.specs.Takeover.{Pair}
use Rattle.cluster_tree.specs.declared.cluster_trees.Cluster.{Cluster}
use Rattle.cluster_tree.specs.declared.cluster_trees.Standing.{Standing}
use Rattle.tree_steps.specs.declared.tree_view.TreeView.{TreeView}
use Rattle.tree_steps.specs.Reports.{Reports, state_in}
use Rattle.tree_steps.specs.TreeEnds.{trees_end}
use Rattle.priority_lb.specs.RunningTimers.{never}
use Rattle.tree_steps.specs.TreeSteps.{TreeFacts, trees_after, trees_view}

abbrev pub trees_in : Result Standing Reason → Option (Pair TreeFacts)
trees_in (Ok standing) = Some standing.trees
trees_in (Err reason) = None

-- the trees that a cluster has: none where it is in error
abbrev pub trees_of : Cluster → Option (Pair TreeFacts)
trees_of cluster = trees_in cluster.state

-- the cluster of a name
abbrev pub cluster_named : List ℕ → List Cluster → Option Cluster
cluster_named name clusters = find (λ c. bytes_eq c.entry.name name) clusters

abbrev pub standing : Reports → Pair TreeFacts → Standing
standing reports trees = record { trees = trees; view = trees_view reports trees; until = record { 0 = trees_end trees } }

abbrev pub state_after : Time → Reports → Result Leaves Reason → Option (Pair TreeFacts) → Result Standing Reason
state_after now reports (Ok leaves) old = Ok (standing reports (trees_after now reports leaves old))
state_after now reports (Err reason) old = Err reason

-- a cluster after an update, where it may have had trees before
abbrev pub cluster_after : Time → Reports → ClusterEntry → Option Cluster → Cluster
cluster_after now reports entry old = record { entry = entry; state = state_after now reports entry.state (option_and_then trees_of old) }

-- the clusters of a configuration after an update
abbrev pub clusters_after : Time → Reports → List ClusterEntry → List Cluster → List Cluster
clusters_after now reports entries old = map (λ entry. cluster_after now reports entry (cluster_named entry.name old)) entries

abbrev pub view_in : Result Standing Reason → Result TreeView Reason
view_in (Ok standing) = Ok standing.view
view_in (Err reason) = Err reason

-- the view of each cluster's trees, or the reason why it has none
abbrev pub views_of : List Cluster → List (Result TreeView Reason)
views_of clusters = map (λ c. view_in c.state) clusters

-- the clusters of the last update, and its time
pub record Forest : Type 0 where
  pub now : Time
  pub clusters : List Cluster

-- before any update
abbrev pub no_clusters : Forest
no_clusters = record { now = record { 0 = 0 }; clusters = [] }

-- the configuration of the last update
abbrev pub entries_of : List Cluster → List ClusterEntry
entries_of clusters = map (λ c. c.entry) clusters

abbrev pub forest_after : Time → Reports → List ClusterEntry → Forest → Forest
forest_after now reports entries old = record { now = now; clusters = clusters_after now reports entries old.clusters }

-- the last update was one with these reports
abbrev pub IsUpdatedWith : Reports → Forest → Type 0
IsUpdatedWith reports forest = (before : List Cluster) × (forest.clusters ≡ clusters_after forest.now reports (entries_of forest.clusters) before)

-- every address whose state differs is one of these
abbrev pub DifferAt : List (List ℕ) → Reports → Reports → Type 0
DifferAt changed old new = (address : List ℕ) → (Contains changed address → ⊥) → state_in new address ≡ state_in old address

-- every address whose state differs from that of the last update is one of these
abbrev pub ChangesAt : List (List ℕ) → Reports → Forest → Type 0
ChangesAt changed reports forest = (last : Reports) × IsUpdatedWith last forest × DifferAt changed last reports

-- until when time alone changes nothing of a cluster's trees
abbrev pub until_in : Result Standing Reason → ℕ
until_in (Ok standing) = standing.until.0
until_in (Err reason) = never

-- whether none of the timers of a cluster's trees has ended at a time
abbrev pub stands_in : Time → Result Standing Reason → Bool
stands_in now state = nat_lt now.0 (until_in state)
