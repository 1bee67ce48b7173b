-- The configuration and its trees, what is seen of them after an entry, and what is published of that.
use Rattle.std.specs.Option.{option_or}
use Rattle.std.specs.Prelude.{◌≡◌, ℕ, Bool, false, List, Option, None, Some, IfSome, option_and_then, option_map}
use Rattle.xds_config.specs.declared.config.Config.{Config}
use Rattle.xds_config.specs.Configs.{IsLawfulConfig}
use Rattle.cluster_tree.specs.declared.snapshot.Snapshot.{Snapshot}
use Rattle.cluster_tree.specs.ViewChanges.{ArePickable, IsChangeMark}
use Rattle.call_journal.specs.declared.event.DriverEvent.{DriverEvent}
use Rattle.call_journal.specs.declared.entry.Entry.{Entry}
use Rattle.book_trees.specs.xds_history.Setting.{Setting}
use Rattle.book_trees.specs.xds_history.declared.page.ClusterTrees.{ClusterTrees}
use Rattle.book_trees.specs.xds_history.Page.{config_now, latest, trees_now}
use Rattle.book_trees.specs.xds_history.Trees.{trees_after}
use Rattle.book_trees.specs.xds_history.Pages.{pages, present_after, snapshot_of}
use Rattle.book_trees.specs.xds_history.Right.{IsNumber, Shown, standing}
use Rattle.book_trees.specs.ReportedLaws.{stands_now}
use Rattle.book_trees.specs.TreesKept.{AreTreesAt, AreTreesWith, StayInPlace, cluster_names, views_after}
use Rattle.book_driver.specs.declared.configured_trees.ConfiguredTrees.{ConfiguredTrees}
use Rattle.book_driver.specs.declared.configured_trees.Seen.{Seen}
use Rattle.book_driver.specs.declared.configured_trees.Published.{Published}

-- between entries
pub record AreConfiguredAt (s : Setting) (past : List Entry) (t : ConfiguredTrees) : Type 0 where
  pub trees_are : AreTreesAt past (pages s past) t.trees
  pub config_is : t.config ≡ config_now (pages s past)
  pub lawful : IfSome t.config IsLawfulConfig

-- within an entry, once its event came
pub record AreConfiguredWith (s : Setting) (event : DriverEvent) (past : List Entry) (t : ConfiguredTrees) : Type 0 where
  pub trees_are : AreTreesWith event past (pages s past) t.trees
  pub config_is : t.config ≡ config_now (pages s past)

-- ---- the configuration that was made, where it isn't the one from before

abbrev pub IsNews : Option Config → Option Config → Option Config → Type 0
IsNews made before None = option_or made before ≡ before
IsNews made before (Some config) = (made ≡ Some config) × (before ≡ Some config → ⊥)

-- ---- what is seen

-- of the trees of this configuration
pub record IsSeen (s : Setting) (event : DriverEvent) (past : List Entry) (config : Config) (seen : Seen) : Type 0 where
  pub views_are : seen.views ≡ views_after event past (pages s past) config
  pub pickable : ArePickable seen.views
  -- whether what stands differs from what stood before
  pub differs_is : IsChangeMark seen.differs (stands_now past (pages s past)) (config, seen.views)
  -- a cluster without a mark is the one that stood at its place before, and what is seen of it and served by it stays
  pub marks_are : StayInPlace seen.marks event past (pages s past) config
  pub names_stay : seen.is_renamed ≡ false → cluster_names (config_now (pages s past)) ≡ cluster_names (Some config)

-- something is seen exactly where there is a configuration
abbrev pub AreSeen : Setting → DriverEvent → List Entry → Option Config → Option Seen → Type 0
AreSeen s event past None None = Unit {0}
AreSeen s event past (Some config) (Some seen) = IsSeen s event past config seen
AreSeen s event past None (Some seen) = ⊥
AreSeen s event past (Some config) None = ⊥

-- ---- what is published

-- the trees after an event, with this configuration
abbrev pub trees_with : Setting → DriverEvent → List Entry → Option Config → List ClusterTrees
trees_with s event past config = trees_after (present_after past event) (trees_now (pages s past)) config

-- what stands then
abbrev pub stands_with : Setting → DriverEvent → List Entry → Option Config → Option Shown
stands_with s event past config = standing (present_after past event) config (trees_with s event past config)

-- what is seen of this configuration, where there is a number
abbrev pub published_by : Option ℕ → Option Config → Option Seen → Option Published
published_by (Some number) (Some config) (Some seen) = Some record { number = number; config = config; views = seen.views; marks = seen.marks; is_renamed = seen.is_renamed }
published_by _ _ _ = None

abbrev pub number_in : Option Published → Option ℕ
number_in published = option_map (λ p. p.number) published

-- a snapshot shows what is published
abbrev pub snapshot_by : Published → Snapshot
snapshot_by p = record { number = p.number; config = p.config; trees = p.views }

pub record IsPublication (s : Setting) (event : DriverEvent) (past : List Entry) (config : Option Config) (p : Published) : Type 0 where
  pub config_is : config ≡ Some p.config
  pub lawful : IsLawfulConfig p.config
  pub views_are : p.views ≡ views_after event past (pages s past) p.config
  pub pickable : ArePickable p.views
  -- a cluster without a mark is the one that stood at its place before, and what is seen of it and served by it stays
  pub marks_are : StayInPlace p.marks event past (pages s past) p.config
  pub names_stay : p.is_renamed ≡ false → cluster_names (config_now (pages s past)) ≡ cluster_names (Some p.config)

-- a snapshot is published exactly where one is due
pub record IsShownBy (s : Setting) (event : DriverEvent) (past : List Entry) (config : Option Config) (published : Option Published) : Type 0 where
  pub number_is : IsNumber (stands_with s event past config) (latest (pages s past)) (number_in published)
  pub snapshot_is : option_and_then (snapshot_of (present_after past event) config (trees_with s event past config)) (number_in published) ≡ option_map snapshot_by published
  pub published_is : IfSome published (IsPublication s event past config)
