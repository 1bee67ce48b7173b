-- What is kept of the trees, and what it is of the history.
use Rattle.std.specs.Prelude.{◌≡◌, ◌<◌, ℕ, List, [], ◌∷◌, map, length, get_or, All, Bool, false, cond, Option, Some, None, Result, Ok, Err, IfSome, option_map, option_and_then, slice_get}
use Rattle.std.specs.List.{find, zip}
use Rattle.std.specs.Option.{option_map_or}
use Rattle.std.specs.Str.{bytes_eq}
use Rattle.std.specs.Map.{lookup}
use Rattle.std.specs.Ordering.{nat_cmp, is_eq}
use Rattle.std.specs.Cmp.Lexicographic.{slice_cmp}
use Rattle.xc_base.specs.declared.names.State.{State}
use Rattle.xc_base.specs.declared.reason.Reason.{Reason}
use Rattle.xds_config.specs.declared.config.Leaves.{Leaves}
use Rattle.xds_config.specs.declared.config.ClusterEntry.{ClusterEntry}
use Rattle.xds_config.specs.declared.config.Config.{Config}
use Rattle.xds_config.specs.Configs.{IsLawfulConfig, AreLawfulLeaves}
use Rattle.priority_lb.specs.ChildHistories as children
use Rattle.priority_lb.specs.ChildLaws.{all_facts}
use Rattle.graceful_switch.specs.Takeover.{Pair}
use Rattle.xds_history.specs.tree_steps.declared.tree_view.TreeView.{TreeView}
use Rattle.xds_history.specs.tree_steps.Reports.{Reports, state_in, names_of, states_in}
use Rattle.xds_history.specs.tree_steps.TreeSteps.{TreeFacts}
use Rattle.cluster_tree.specs.declared.cluster_trees.Cluster.{Cluster}
use Rattle.cluster_tree.specs.declared.cluster_trees.Standing.{Standing}
use Rattle.cluster_tree.specs.StandingTrees.{Forest, IsUpdatedWith, DifferAt, standing}
use Rattle.cluster_tree.specs.ViewChanges.{IsChangeMark}
use Rattle.call_journal.specs.declared.event.DriverEvent.{DriverEvent}
use Rattle.call_journal.specs.declared.reply.DriverReply.{DriverReply}
use Rattle.call_journal.specs.declared.entry.What.{What}
use Rattle.call_journal.specs.declared.entry.Entry.{Entry}
use Rattle.xds_history.specs.config_assembly.Orders.{Name}
use Rattle.xds_history.specs.declared.page.Glimpse.{Glimpse}
use Rattle.xds_history.specs.declared.page.Tree.{Tree}
use Rattle.xds_history.specs.declared.page.ClusterTrees.{ClusterTrees}
use Rattle.xds_history.specs.declared.page.Page.{Page}
use Rattle.xds_history.specs.Clock.{now, state}
use Rattle.xds_history.specs.Page.{config_now, trees_now, update_of}
use Rattle.xds_history.specs.Trees.{Present, is_same_kind, leaves_now, updates, chosen_place, trees_of, trees_after}
use Rattle.xds_history.specs.Pickers.{cluster_view, views}
use Rattle.xds_history.specs.Pages.{present_after}
use Rattle.book_trees.specs.declared.reported_trees.ReportedTrees.{ReportedTrees}
use Rattle.book_trees.specs.ServedPlaces.{served_in}

-- ---- a tree by its life

-- the leaves that a tree followed last, as a cluster stands for them
abbrev pub leaves_of : Tree → Leaves
leaves_of tree = record { aggregate = tree.aggregate; leaves = leaves_now tree }

-- what is kept of a tree with this life
abbrev pub facts_of : Tree → TreeFacts
facts_of tree = record { leaves = leaves_of tree; children = all_facts (updates tree); chosen = chosen_place tree }

abbrev pub pair_facts : Pair Tree → Pair TreeFacts
pair_facts trees = record { serving = facts_of trees.serving; waiting = option_map facts_of trees.waiting }

-- the children of a tree at its newest entry, with their states
abbrev pub children_last : List Glimpse → List (children.Name × State)
children_last [] = []
children_last (g ∷ gs) = (update_of g).children

-- at its newest entry a tree followed lawful leaves, while addresses had reported these states
pub record IsGrownTree (reports : Reports) (tree : Tree) : Type 0 where
  pub lawful : AreLawfulLeaves (leaves_of tree)
  pub children_are : children_last tree.life ≡ zip (names_of (leaves_now tree)) (states_in reports (leaves_now tree))

-- the trees of a cluster that stands for these leaves: where none waits, the one that serves follows them; one that waits
-- follows them and is of the other kind
pub record IsGrownPair (reports : Reports) (leaves : Leaves) (trees : Pair Tree) : Type 0 where
  pub serving : IsGrownTree reports trees.serving
  pub waiting : IfSome trees.waiting (IsGrownTree reports)
  pub alone : trees.waiting ≡ None → leaves_of trees.serving ≡ leaves
  pub kinds : IfSome trees.waiting (λ w. is_same_kind trees.serving.aggregate w.aggregate ≡ false)

-- a cluster has trees unless it is in error
abbrev pub StandsFor : Reports → Result Leaves Reason → Option (Pair Tree) → Type 0
StandsFor reports (Ok leaves) (Some trees) = IsGrownPair reports leaves trees
StandsFor reports (Ok leaves) None = ⊥
StandsFor reports (Err reason) (Some trees) = ⊥
StandsFor reports (Err reason) None = Unit {0}

-- the first cluster of a name
abbrev pub entry_named : Name → List ClusterEntry → Option ClusterEntry
entry_named name entries = find (λ c. bytes_eq c.name name) entries

-- there are trees for the clusters of a configuration, and for no others
pub record AreGrown (reports : Reports) (config : Config) (trees : List ClusterTrees) : Type 0 where
  pub each : All (λ c. StandsFor reports c.state (trees_of c.name trees)) config.clusters
  pub only : (name : Name) → entry_named name config.clusters ≡ None → trees_of name trees ≡ None

abbrev pub AreGrownTrees : Reports → Option Config → List ClusterTrees → Type 0
AreGrownTrees reports None trees = trees ≡ []
AreGrownTrees reports (Some config) trees = AreGrown reports config trees

-- ---- the clusters with what is kept of their trees

abbrev pub kept_state : Reports → Option (Pair Tree) → Result Leaves Reason → Result Standing Reason
kept_state reports trees (Err reason) = Err reason
kept_state reports None (Ok leaves) = Err Reason.Failing
kept_state reports (Some trees) (Ok leaves) = Ok (standing reports (pair_facts trees))

abbrev pub kept_cluster : Reports → List ClusterTrees → ClusterEntry → Cluster
kept_cluster reports trees entry = record { entry = entry; state = kept_state reports (trees_of entry.name trees) entry.state }

abbrev pub kept_clusters : Reports → Option Config → List ClusterTrees → List Cluster
kept_clusters reports None trees = []
kept_clusters reports (Some config) trees = map (kept_cluster reports trees) config.clusters

-- what is kept is that of the trees of the newest page, which grew last while addresses had reported these states
pub record IsForestOf (reports : Reports) (ps : List Page) (forest : Forest) : Type 0 where
  pub clusters_are : forest.clusters ≡ kept_clusters reports (config_now ps) (trees_now ps)
  pub updated : IsUpdatedWith reports forest
  pub lawful : IfSome (config_now ps) IsLawfulConfig
  pub grown : AreGrownTrees reports (config_now ps) (trees_now ps)

-- ---- what is kept, of the history

abbrev pub present : List Entry → Present
present past = record { state = state past; now = now past }

-- these are the states that addresses reported last
abbrev pub AreReportsOf : (Name → State) → Reports → Type 0
AreReportsOf states reports = (address : Name) → state_in reports address ≡ states address

-- one address's state is reported
abbrev pub IsReport : Reports → Reports → Name → State → Type 0
IsReport old new address reported =
    (other : Name) → lookup (λ a. is_eq (slice_cmp nat_cmp other a)) new ≡ cond (is_eq (slice_cmp nat_cmp address other)) (Some reported) (lookup (λ a. is_eq (slice_cmp nat_cmp other a)) old)

-- between entries
pub record AreTreesAt (past : List Entry) (ps : List Page) (t : ReportedTrees) : Type 0 where
  pub reports_are : AreReportsOf (state past) t.reports.entries
  pub now_is : t.now ≡ now past
  pub forest : IsForestOf t.reports.entries ps t.trees

-- the address whose state an event reports
abbrev pub reported_in : DriverEvent → List Name
reported_in (DriverEvent.Endpoint address state) = address ∷ []
reported_in _ = []

-- within an entry, once its event came, before the trees follow
pub record AreTreesWith (event : DriverEvent) (past : List Entry) (ps : List Page) (t : ReportedTrees) : Type 0 where
  pub reports_are : AreReportsOf (present_after past event).state t.reports.entries
  pub now_is : t.now ≡ (present_after past event).now
  pub last : Reports
  pub last_are : AreReportsOf (state past) last
  pub forest : IsForestOf last ps t.trees
  pub differ : DifferAt (reported_in event) last t.reports.entries

abbrev pub driven : ℕ → ℕ → DriverEvent → DriverReply → Entry
driven actor line event reply = record { actor = actor; line = line; what = What.Driver event reply }

-- the page of a driver's entry of this event has this configuration, and the trees after it
pub record IsPageOf (event : DriverEvent) (past : List Entry) (ps : List Page) (config : Option Config) (page : Page) : Type 0 where
  pub config_is : page.config ≡ config
  pub trees_are : page.trees ≡ trees_after (present_after past event) (trees_now ps) config

-- ---- what is seen

-- the views of the trees after an event
abbrev pub views_after : DriverEvent → List Entry → List Page → Config → List (Result TreeView Reason)
views_after event past ps config = views (present_after past event).state (trees_after (present_after past event) (trees_now ps) (Some config)) config

-- what was seen of the cluster of a name before
abbrev pub seen_in : (Name → State) → List ClusterTrees → Name → Config → Option (Result TreeView Reason)
seen_in states trees name config = option_map (cluster_view states trees) (entry_named name config.clusters)

abbrev pub seen_before : List Entry → List Page → Name → Option (Result TreeView Reason)
seen_before past ps name = option_and_then (seen_in (state past) (trees_now ps) name) (config_now ps)

-- each cluster of the configuration has a mark of whether what is seen of it differs from what was seen of the cluster of its
-- name before
pub record AreMarked (marks : List Bool) (past : List Entry) (ps : List Page) (config : Config) (seen : List (Result TreeView Reason)) : Type 0 where
  pub count : length marks ≡ length config.clusters
  pub seen_count : length seen ≡ length config.clusters
  pub each : (place : ℕ) (c : ClusterEntry) (v : Result TreeView Reason) → place < length config.clusters →
      IsChangeMark (get_or marks place false) (seen_before past ps (get_or config.clusters place c).name) (get_or seen place v)

-- ---- what stands still

-- a cluster of the configuration is the one that stood at its place, and what is seen of it and served by it stays
pub record StaysInPlace (event : DriverEvent) (past : List Entry) (ps : List Page) (config : Config) (place : ℕ) (entry : ClusterEntry) : Type 0 where
  pub entry_stays : option_and_then (λ c. slice_get c.clusters place) (config_now ps) ≡ Some entry
  pub seen_stays : cluster_view (state past) (trees_now ps) entry ≡ cluster_view (present_after past event).state (trees_after (present_after past event) (trees_now ps) (Some config)) entry
  pub served_stays : served_in (trees_now ps) entry.name ≡ served_in (trees_after (present_after past event) (trees_now ps) (Some config)) entry.name

-- each cluster without a mark does
pub record StayInPlace (marks : List Bool) (event : DriverEvent) (past : List Entry) (ps : List Page) (config : Config) : Type 0 where
  pub count : length marks ≡ length config.clusters
  pub each : (place : ℕ) (entry : ClusterEntry) → slice_get config.clusters place ≡ Some entry → get_or marks place false ≡ false → StaysInPlace event past ps config place entry

-- the clusters of a configuration, if there is one, and their names
abbrev pub clusters_of : Option Config → List ClusterEntry
clusters_of config = option_map_or (λ c. c.clusters) config []

abbrev pub cluster_names : Option Config → List Name
cluster_names config = map (λ entry. entry.name) (clusters_of config)
