-- Clusters among those that read the states of addresses, and which of them an update leaves as they are.
use Rattle.std.specs.Prelude.{◌≡◌, ◌<◌, ◌⊎◌, ℕ, Bool, List, length, get_or, AllPairs, Result, Ok, true, false, IfOk, ◌≤◌, Some, None, option_map, slice_get}
use Rattle.xc_base.specs.declared.reason.Reason.{Reason}
use Rattle.xc_base.specs.declared.names.Time.{Time}
use Rattle.xds_config.specs.declared.config.Leaves.{Leaves}
use Rattle.xds_config.specs.declared.config.ClusterEntry.{ClusterEntry}
use Rattle.xds_config.specs.Configs.{IsNameBefore}
use Rattle.cluster_tree.specs.declared.cluster_trees.Cluster.{Cluster}
use Rattle.cluster_tree.specs.declared.cluster_trees.Standing.{Standing}
use Rattle.tree_steps.specs.Reports.{Reports}
use Rattle.tree_steps.specs.Users.{UserList, ReadsLeaves, IsSoundTree}
use Rattle.cluster_tree.specs.StandingTrees.{cluster_after, stands_in}

-- the leaves of a cluster and of its serving tree are lawful, and the cluster is among those that read their addresses
abbrev pub IsSound : UserList → ℕ → Cluster → Type 0
IsSound users place cluster = IfOk cluster.entry.state (IsSoundTree users place) × IfOk cluster.state (λ standing. IsSoundTree users place standing.trees.serving.leaves)

abbrev pub AreReadIn : UserList → ℕ → Result Leaves Reason → Result Standing Reason → Type 0
AreReadIn users place entry state = IfOk entry (λ leaves. ReadsLeaves users place leaves.leaves) × IfOk state (λ standing. ReadsLeaves users place standing.trees.serving.leaves.leaves)

-- where no tree waits, the serving one follows the leaves of the cluster's entry
abbrev pub FollowsEntry : Cluster → Type 0
FollowsEntry cluster = IfOk cluster.state (λ standing. standing.trees.waiting ≡ None → cluster.entry.state ≡ Ok standing.trees.serving.leaves)

-- each cluster is among those that read the addresses of its leaves, and of its serving tree's
abbrev pub AreRead : UserList → List Cluster → Type 0
AreRead users clusters = (place : ℕ) (d : Cluster) → place < length clusters → AreReadIn users place (get_or clusters place d).entry.state (get_or clusters place d).state

-- so is each cluster without a mark
abbrev pub AreReadBut : List Bool → UserList → List Cluster → Type 0
AreReadBut marks users clusters = (place : ℕ) (d : Cluster) → place < length clusters → get_or marks place false ≡ false → AreReadIn users place (get_or clusters place d).entry.state (get_or clusters place d).state

-- the clusters stand in strictly rising order of their names
abbrev pub AreRising : List Cluster → Type 0
AreRising clusters = AllPairs (λ a b. IsNameBefore a.entry.name b.entry.name) clusters

-- the clusters in front of a place stand before a name, and the one at the place doesn't
pub record IsReached (clusters : List Cluster) (name : List ℕ) (place : ℕ) : Type 0 where
  pub within : place ≤ length clusters
  pub passed : (k : ℕ) (d : Cluster) → k < place → IsNameBefore (get_or clusters k d).entry.name name
  pub stops : (d : Cluster) → place < length clusters → IsNameBefore (get_or clusters place d).entry.name name → ⊥

-- each cluster without a mark is the one that stood at its place
pub record StandBut (marks : List Bool) (old new : List Cluster) : Type 0 where
  pub count : length marks ≡ length new
  pub each : (place : ℕ) (d : Cluster) → place < length new → get_or marks place false ≡ false → (place < length old) × (get_or new place d ≡ get_or old place d)

-- an entry without a mark is that of the cluster that stood at its place
abbrev pub EntriesStay : List Bool → List Cluster → List ClusterEntry → Type 0
EntriesStay marks old entries = (place : ℕ) (entry : ClusterEntry) → slice_get entries place ≡ Some entry → get_or marks place false ≡ false → option_map (λ c. c.entry) (slice_get old place) ≡ Some entry

-- the clusters have names in rising order, and are among those that read their addresses
pub record AreIndexed (users : UserList) (clusters : List Cluster) : Type 0 where
  pub rising : AreRising clusters
  pub sound : (place : ℕ) (d : Cluster) → place < length clusters → IsSound users place (get_or clusters place d)

-- without a mark the cluster stays as it is, where no timer has ended and time hasn't gone back
abbrev pub StaysUnmarked : Time → Time → Reports → Bool → Cluster → Type 0
StaysUnmarked last now reports mark cluster = mark ≡ false → stands_in now cluster.state ≡ true → last.0 ≤ now.0 → cluster_after now reports cluster.entry (Some cluster) ≡ cluster

abbrev pub OthersStay : Time → Time → Reports → List Bool → List Cluster → Type 0
OthersStay last now reports marks clusters = (place : ℕ) (d : Cluster) → place < length clusters → StaysUnmarked last now reports (get_or marks place false) (get_or clusters place d)

-- each cluster took the update, or is as before
pub record AreStepped (now : Time) (reports : Reports) (old new : List Cluster) : Type 0 where
  pub count : length new ≡ length old
  pub each : (place : ℕ) (d : Cluster) → place < length old → (get_or new place d ≡ get_or old place d) ⊎ (get_or new place d ≡ cluster_after now reports (get_or old place d).entry (Some (get_or old place d)))
