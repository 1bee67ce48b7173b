-- Laws of what is kept of the trees, and of the snapshots that show them.
use Rattle.std.specs.Prelude.{◌≡◌, ◌≤◌, ℕ, ◌+◌, ◌||◌, List, ◌∷◌, length, Bool, Option, Some, None, Result, Contains, IfSome, option_map, slice_get, if◌then◌else◌}
use Rattle.std.specs.List.{list_any}
use Rattle.xc_base.specs.declared.reason.Reason.{Reason}
use Rattle.xc_base.specs.declared.names.Kind.{Kind}
use Rattle.xds_bootstrap.specs.declared.bootstrap.Bootstrap.{Bootstrap}
use Rattle.xds_name.specs.declared.target.Target.{Target}
use Rattle.xds_config.specs.declared.config.ClusterEntry.{ClusterEntry}
use Rattle.xds_config.specs.declared.config.Config.{Config}
use Rattle.xds_config.specs.Configs.{IsLawfulConfig}
use Rattle.xds_history.specs.tree_steps.declared.tree_view.TreeView.{TreeView}
use Rattle.cluster_tree.specs.ViewChanges.{IsChangeMark, localities_at}
use Rattle.call_journal.specs.declared.event.DriverEvent.{DriverEvent}
use Rattle.call_journal.specs.declared.event.CallerEvent.{CallerEvent}
use Rattle.call_journal.specs.declared.reply.CallerReply.{CallerReply}
use Rattle.call_journal.specs.declared.reply.DriverReply.{DriverReply}
use Rattle.call_journal.specs.declared.entry.What.{What}
use Rattle.call_journal.specs.declared.entry.Entry.{Entry}
use Rattle.xds_history.specs.Setting.{Setting, setting_of}
use Rattle.xds_history.specs.declared.page.Page.{Page}
use Rattle.xds_history.specs.Clock.{state}
use Rattle.xds_history.specs.Page.{config_now, trees_now, latest, latest_number}
use Rattle.xds_history.specs.Trees.{trees_after}
use Rattle.xds_history.specs.Pickers.{cluster_view}
use Rattle.xds_history.specs.Pages.{pages, present_after}
use Rattle.xds_history.specs.Right.{Right, Shown, shown, standing}
use Rattle.book_trees.specs.declared.reported_trees.ReportedTrees.{ReportedTrees}
use Rattle.book_trees.specs.TreesKept.{AreMarked, AreTreesAt, AreTreesWith, IsPageOf, driven, present}
use Rattle.book_trees.specs.ServedPlaces.{served_in}

-- ---- entries at which the trees don't follow

abbrev pub called : ℕ → ℕ → CallerEvent → CallerReply → Entry
called actor line event reply = record { actor = actor; line = line; what = What.Caller event reply }

-- a caller's entry leaves what is kept as it is
abbrev pub CallersLeaveTrees : Type 0
CallersLeaveTrees = (s : Setting) (past : List Entry) (actor line : ℕ) (event : CallerEvent) (reply : CallerReply) (t : ReportedTrees) → AreTreesAt past (pages s past) t →
    AreTreesAt (called actor line event reply ∷ past) (pages s (called actor line event reply ∷ past)) t

-- so does a driver's entry, once its event came, where there is no configuration before and after
abbrev pub NoTreesStand : Type 0
NoTreesStand = (past : List Entry) (ps : List Page) (actor line : ℕ) (event : DriverEvent) (reply : DriverReply) (page : Page) (t : ReportedTrees) → AreTreesWith event past ps t →
    config_now ps ≡ None → IsPageOf event past ps None page → AreTreesAt (driven actor line event reply ∷ past) (page ∷ ps) t

-- ---- what the latest snapshot shows

-- what stands
abbrev pub stands_now : List Entry → List Page → Option Shown
stands_now past ps = standing (present past) (config_now ps) (trees_now ps)

-- the latest snapshot shows it
abbrev pub ShowsWhatStands : List Entry → List Page → Type 0
ShowsWhatStands past ps = stands_now past ps ≡ option_map shown (latest ps)

-- a channel never loses its configuration
abbrev pub ConfigsAreKept : Type 0
ConfigsAreKept = (boot : Bootstrap) (target : Target) (e : Entry) (past : List Entry) → target.key.kind ≡ Kind.Listener → config_now (pages (setting_of boot target) (e ∷ past)) ≡ None → config_now (pages (setting_of boot target) past) ≡ None

abbrev pub LatestShowsWhatStands : Type 0
LatestShowsWhatStands = (boot : Bootstrap) (target : Target) (past : List Entry) → target.key.kind ≡ Kind.Listener → Right (setting_of boot target) past → ShowsWhatStands past (pages (setting_of boot target) past)

-- snapshots are no more than entries
abbrev pub NumbersAreFew : Type 0
NumbersAreFew = (s : Setting) (past : List Entry) → Right s past → IfSome (latest_number (pages s past)) (λ n. n ≤ length past)

-- the number of the snapshot that is due where something stands
abbrev pub next_number : Option ℕ → Bool → Option ℕ
next_number None differs = Some 1
next_number (Some last) differs = if differs then Some (last + 1) else None

-- whether the configuration or a view differs
abbrev pub any_differs : Bool → List Bool → Bool
any_differs config marks = config || list_any (λ mark. mark) marks

-- what stands after an entry differs from what stood before exactly where the configuration or a view does
abbrev pub MarksTellChange : Type 0
MarksTellChange = (past : List Entry) (ps : List Page) (config : Config) (seen : List (Result TreeView Reason)) (marks : List Bool) (differs : Bool) → IsLawfulConfig config →
    AreMarked marks past ps config seen → IsChangeMark differs (config_now ps) config → IsChangeMark (any_differs differs marks) (stands_now past ps) (config, seen)

-- ---- whose endpoints take turns

-- the kept trees have the localities that are served of each cluster
abbrev pub TreesServe : Type 0
TreesServe = (past : List Entry) (ps : List Page) (t : ReportedTrees) (config : Config) (c : ClusterEntry) (place : ℕ) → AreTreesAt past ps t → config_now ps ≡ Some config →
    slice_get config.clusters place ≡ Some c → localities_at t.trees place ≡ served_in (trees_now ps) c.name

-- where the configuration stays and what is seen of a cluster stays, so do the localities of its chosen child
abbrev pub StayKeepsPlaces : Type 0
StayKeepsPlaces = (past : List Entry) (ps : List Page) (t : ReportedTrees) (event : DriverEvent) (config : Config) (c : ClusterEntry) → AreTreesAt past ps t →
    config_now ps ≡ Some config → Contains config.clusters c →
    cluster_view (state past) (trees_now ps) c ≡ cluster_view (present_after past event).state (trees_after (present_after past event) (trees_now ps) (Some config)) c →
    served_in (trees_now ps) c.name ≡ served_in (trees_after (present_after past event) (trees_now ps) (Some config)) c.name
