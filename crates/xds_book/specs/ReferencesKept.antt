-- What a history keeps of the clusters that calls refer to (gRFC A31, A74).
use Rattle.std.specs.Prelude.{◌≡◌, ℕ, List, ◌∷◌, ◌++◌, map, Some, Contains, IsTrue}
use Rattle.xc_base.specs.declared.names.CallId.{CallId}
use Rattle.xds_config.specs.declared.config.Config.{Config}
use Rattle.cluster_tree.specs.declared.snapshot.Snapshot.{Snapshot}
use Rattle.call_journal.specs.declared.entry.Entry.{Entry}
use Rattle.book_driver.specs.config_assembly.Orders.{Name, name_cmp, sorted}
use Rattle.book_driver.specs.config_assembly.Front.{names_of_front}
use Rattle.book_calls.specs.xds_history.Setting.{Setting}
use Rattle.book_calls.specs.xds_history.Page.{config_now, latest}
use Rattle.book_calls.specs.xds_history.References.{held, pinned, references}
use Rattle.book_calls.specs.xds_history.Pages.{pages}
use Rattle.book_calls.specs.xds_history.HistoryLaws.{HasCluster, HasThoseOf, LatestHas, is_whole, published}

-- an entry of a history, with those before it
pub record IsEntryOf (history : List Entry) (e : Entry) (past : List Entry) : Type 0 where
  pub later : List Entry
  pub is : history ≡ later ++ e ∷ past

-- at each moment the latest snapshot has every cluster that a call refers to
abbrev pub LatestHasThem : Setting → List Entry → Type 0
LatestHasThem s history = (later past : List Entry) → history ≡ later ++ past → (name : Name) → Contains (references (pages s past)) name → LatestHas (latest (pages s past)) name

-- each snapshot that is published while a pin is open has every cluster that the host of the pinned snapshot names
abbrev pub KeepsPinned : Setting → List Entry → Type 0
KeepsPinned s history = (e : Entry) (past : List Entry) → IsEntryOf history e past → (snapshot : Snapshot) → published s e past ≡ Some snapshot
    → (call : CallId) (number : ℕ) → pinned (pages s past) call ≡ Some number → HasThoseOf (pages s past) number snapshot

-- each snapshot that is published while a call holds a cluster has it
abbrev pub KeepsHeld : Setting → List Entry → Type 0
KeepsHeld s history = (e : Entry) (past : List Entry) → IsEntryOf history e past → (snapshot : Snapshot) → published s e past ≡ Some snapshot
    → (call : CallId) (name : Name) → held (pages s past) call ≡ Some name → HasCluster snapshot name

-- the configuration that is taken at a whole entry has no cluster that neither its host names nor a call refers to
abbrev pub KeepsNoOthers : Setting → List Entry → Type 0
KeepsNoOthers s history = (e : Entry) (past : List Entry) → IsEntryOf history e past → IsTrue (is_whole e.what)
    → (config : Config) → config_now (pages s (e ∷ past)) ≡ Some config → map (λ c. c.name) config.clusters ≡ sorted name_cmp (names_of_front config.front ++ references (pages s past))
