-- Entries of a configuration that are put in the places of their clusters.
use Rattle.std.specs.Prelude.{◌≡◌, ◌<◌, ◌⊎◌, ℕ, Bool, true, false, List, length, get_or, set, Option, IfOk, IfSome}
use Rattle.xds_config.specs.declared.config.ClusterEntry.{ClusterEntry}
use Rattle.tree_steps.specs.Reports.{Reports}
use Rattle.tree_steps.specs.Users.{UserList, Grows, ReadsLeaves}
use Rattle.cluster_tree.specs.declared.cluster_trees.Cluster.{Cluster}
use Rattle.cluster_tree.specs.declared.cluster_entries.EntriesPut.{EntriesPut}
use Rattle.cluster_tree.specs.StandingTrees.{Forest, ChangesAt, entries_of}
use Rattle.cluster_tree.specs.ClusterUsers.{StandBut}

-- a cluster that stands for another entry, and keeps its trees
abbrev pub with_entry : ClusterEntry → Cluster → Cluster
with_entry entry cluster = record { entry = entry; state = cluster.state }

-- a cluster stands for an entry, if there is one
abbrev pub StandsFor : Option ClusterEntry → Cluster → Type 0
StandsFor entry cluster = IfSome entry (λ e. cluster.entry ≡ e)

-- each cluster with a mark is among those that read the addresses of its entry
abbrev pub AreReadAt : List Bool → UserList → List Cluster → Type 0
AreReadAt put users clusters = (place : ℕ) (d : Cluster) → place < length clusters → get_or put place false ≡ true → IfOk (get_or clusters place d).entry.state (λ leaves. ReadsLeaves users place leaves.leaves)

-- the entry was put in the place of a cluster: all else is as before, but for its mark and who reads its addresses
pub record IsPutAt (place : ℕ) (entry : ClusterEntry) (old new : EntriesPut) : Type 0 where
  pub within : place < length old.clusters.items
  pub count : length new.clusters.items ≡ length old.clusters.items
  pub here : (d : Cluster) → get_or new.clusters.items place d ≡ with_entry entry (get_or old.clusters.items place d)
  pub others : (other : ℕ) (d : Cluster) → (other ≡ place → ⊥) → get_or new.clusters.items other d ≡ get_or old.clusters.items other d
  pub put : new.put ≡ set old.put place true
  pub read : IfOk entry.state (λ leaves. ReadsLeaves new.users place leaves.leaves)
  pub grows : Grows old.users new.users

-- the cluster at a place stands for the entry, which was put there, or nothing is other than before
pub record IsTakenAt (place : ℕ) (entry : Option ClusterEntry) (old new : EntriesPut) : Type 0 where
  pub stands : (d : Cluster) → StandsFor entry (get_or new.clusters.items place d)
  pub put : (new ≡ old) ⊎ ((e : ClusterEntry) × IsPutAt place e old new)

-- the clusters stand for these entries, and keep their trees; each without a mark is as before
pub record ArePut (put : List Bool) (entries : List ClusterEntry) (old new : List Cluster) : Type 0 where
  pub entries_are : entries_of new ≡ entries
  pub count : length new ≡ length old
  pub trees : (place : ℕ) (d : Cluster) → place < length old → (get_or new place d).state ≡ (get_or old place d).state
  pub stand : StandBut put old new

-- these are the clusters of the last update, but for those with a mark, and every address whose state differs from that of the
-- last update is one of these
pub record ChangesBut (put : List Bool) (changed : List (List ℕ)) (reports : Reports) (forest : Forest) : Type 0 where
  pub before : Forest
  pub changes : ChangesAt changed reports before
  pub now_is : before.now ≡ forest.now
  pub stand : StandBut put before.clusters forest.clusters
