-- Which clusters have timers that run, which are due at an update, and what the update makes of them.
use Rattle.std.specs.Prelude.{◌≡◌, ◌<◌, ◌≤◌, ◌^◌, ℕ, Bool, true, false, if◌then◌else◌, List, length, get_or, set, Contains, Result, Some}
use Rattle.std.specs.Ordering.{nat_cmp}
use Rattle.std.specs.BTreeSet.{BTreeSet, contains}
use Rattle.xc_base.specs.declared.names.Time.{Time}
use Rattle.xc_base.specs.declared.reason.Reason.{Reason}
use Rattle.priority_lb.specs.RunningTimers.{never}
use Rattle.tree_timers.specs.declared.timer_ends.TimerEnd.{TimerEnd}
use Rattle.tree_timers.specs.EndsKept.{Ends, HasEnd}
use Rattle.tree_steps.specs.declared.tree_view.TreeView.{TreeView}
use Rattle.tree_steps.specs.Reports.{Reports}
use Rattle.tree_steps.specs.Users.{UserList, users_at}
use Rattle.cluster_tree.specs.declared.cluster_trees.Cluster.{Cluster}
use Rattle.cluster_tree.specs.declared.cluster_trees.Standing.{Standing}
use Rattle.cluster_tree.specs.declared.cluster_steps.InPlace.{InPlace}
use Rattle.cluster_tree.specs.StandingTrees.{cluster_after, stands_in, until_in}
use Rattle.cluster_tree.specs.ClusterUsers.{AreIndexed}
use Rattle.cluster_tree.specs.KeptViews.{AreViewsIn}
use Rattle.cluster_tree.specs.ViewChanges.{seen_of, IsChangeMark}

-- the end of the first timer of the trees of the cluster at a place
abbrev pub end_at : ℕ → Result Standing Reason → TimerEnd
end_at place state = record { at = record { 0 = until_in state }; place = place }

-- where a timer of the cluster's trees runs, its end is among these
abbrev pub IsTimed : Ends → ℕ → Cluster → Type 0
IsTimed ends place cluster = until_in cluster.state < never → HasEnd ends (end_at place cluster.state)

abbrev pub AreTimed : Ends → List Cluster → Type 0
AreTimed ends clusters = (place : ℕ) (d : Cluster) → place < length clusters → IsTimed ends place (get_or clusters place d)

-- there are few clusters, they are among those that read their addresses, their timers' ends are kept, and the views are theirs
pub record AreKept (users : UserList) (ends : Ends) (views : List (Result TreeView Reason)) (clusters : List Cluster) : Type 0 where
  pub few : length clusters < 2 ^ 31
  pub indexed : AreIndexed users clusters
  pub timed : AreTimed ends clusters
  pub seen : AreViewsIn views clusters

-- ---- the clusters that are due

abbrev pub is_due_at : BTreeSet ℕ → ℕ → Bool
is_due_at due place = contains nat_cmp due place

-- where a cluster isn't due: it reads none of the addresses, no timer has ended, and time goes on
pub record IsLeft (last now : Time) (users : UserList) (changed : List (List ℕ)) (place : ℕ) (cluster : Cluster) : Type 0 where
  pub unread : (address : List ℕ) → Contains changed address → Contains (users_at users address) place → ⊥
  pub stands : stands_in now cluster.state ≡ true
  pub goes_on : last.0 ≤ now.0

abbrev pub AreLeft : Time → Time → UserList → List (List ℕ) → BTreeSet ℕ → List Cluster → Type 0
AreLeft last now users changed due clusters = (place : ℕ) (d : Cluster) → place < length clusters → is_due_at due place ≡ false → IsLeft last now users changed place (get_or clusters place d)

-- the ends of the others' timers are kept
abbrev pub AreTimedBut : BTreeSet ℕ → Ends → List Cluster → Type 0
AreTimedBut due ends clusters = (place : ℕ) (d : Cluster) → place < length clusters → is_due_at due place ≡ false → IsTimed ends place (get_or clusters place d)

-- each cluster that is due has a mark
abbrev pub AreDueMarked : BTreeSet ℕ → List Bool → Type 0
AreDueMarked due marks = (place : ℕ) → place < length marks → is_due_at due place ≡ true → get_or marks place false ≡ true

-- a cluster that took an update
abbrev pub stepped : Time → Reports → Cluster → Cluster
stepped now reports cluster = cluster_after now reports cluster.entry (Some cluster)

-- the cluster at a place took the update: all else is as before, but for its mark and the end of its timer
pub record IsSteppedAt (now : Time) (reports : Reports) (place : ℕ) (old new : InPlace) : Type 0 where
  pub count : length new.clusters.items ≡ length old.clusters.items
  pub here : (d : Cluster) → get_or new.clusters.items place d ≡ stepped now reports (get_or old.clusters.items place d)
  pub others : (other : ℕ) (d : Cluster) → (other ≡ place → ⊥) → get_or new.clusters.items other d ≡ get_or old.clusters.items other d
  pub marks : length new.changed ≡ length old.changed
  pub mark : (d : Cluster) → IsChangeMark (get_or new.changed place false) (Some (seen_of (get_or old.clusters.items place d))) (seen_of (get_or new.clusters.items place d))
  pub other_marks : (other : ℕ) → (other ≡ place → ⊥) → get_or new.changed other false ≡ get_or old.changed other false
  pub anew : new.anew ≡ set old.anew place true
  pub timed : (d : Cluster) → IsTimed new.ends place (get_or new.clusters.items place d)
  pub ends : (end : TimerEnd) → HasEnd old.ends end → HasEnd new.ends end

-- the clusters that are due took the update, and the others are as before
pub record AreSteppedAt (now : Time) (reports : Reports) (due : BTreeSet ℕ) (old new : List Cluster) : Type 0 where
  pub count : length new ≡ length old
  pub each : (place : ℕ) (d : Cluster) → place < length old → get_or new place d ≡ (if is_due_at due place then stepped now reports (get_or old place d) else get_or old place d)
