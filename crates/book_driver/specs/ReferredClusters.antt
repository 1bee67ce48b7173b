-- What the driver is handed of calls is what the history says of them (gRFC A31, A74).
use Rattle.std.specs.Prelude.{◌≡◌, List, Option, Contains, false}
use Rattle.xds_config.specs.declared.config.Config.{Config}
use Rattle.cluster_refs.specs.CallReferences.{AreRetained}
use Rattle.config_assembly.specs.Orders.{Name}
use Rattle.dep_manager.specs.ServedCalls.{AreShown}
use Rattle.book_trees.specs.xds_history.declared.page.Page.{Page}
use Rattle.book_trees.specs.xds_history.Page.{latest}
use Rattle.book_trees.specs.xds_history.References.{references, references_seen}
use Rattle.book_trees.specs.xds_history.HistoryLaws.{LatestHas}
use Rattle.book_driver.specs.declared.call_refs.CallRefs.{CallRefs}

-- what is pinned and held are the clusters to which calls refer, and these are those of the driver's last entry, unless it is
-- said that they may differ
pub record AreCalledAt (ps : List Page) (calls : CallRefs) : Type 0 where
  pub names_are : (names : List Name) → AreRetained calls.refs.now names → names ≡ references ps
  pub stay : calls.may_differ ≡ false → references ps ≡ references_seen ps

-- the latest snapshot has them
abbrev pub LatestHasAll : List Page → Type 0
LatestHasAll ps = (name : Name) → Contains (references ps) name → LatestHas (latest ps) name

-- and so has the configuration that was handed out last
pub record AreReferredAt (ps : List Page) (shown : Option Config) (calls : CallRefs) : Type 0 where
  pub called : AreCalledAt ps calls
  pub shown_are : AreShown shown (references ps)
