-- A page for each entry: what stands after it. The pages of a history have the newest first.
use Rattle.std.specs.Prelude.{ℕ, List, [], ◌∷◌, map, Option, None, option_map}
use Rattle.std.specs.List.{find}
use Rattle.xc_base.specs.declared.names.Key.{Key}
use Rattle.xc_base.specs.declared.names.State.{State}
use Rattle.xc_keys.specs.Keys.{is_key}
use Rattle.xds_config.specs.declared.config.Config.{Config}
use Rattle.priority_lb.specs.ChildHistories.{Name as ChildName, Update}
use Rattle.graceful_switch.specs.Takeover.{Pair}
use Rattle.cluster_tree.specs.declared.snapshot.Snapshot.{Snapshot}
use Rattle.xds_history.specs.declared.page.Watched.{Watched}
use Rattle.xds_history.specs.declared.page.PriorityState.{PriorityState}
use Rattle.xds_history.specs.declared.page.Glimpse.{Glimpse}
use Rattle.config_assembly.specs.Orders.{Name}
use Rattle.xds_history.specs.declared.page.Tree.{Tree}
use Rattle.xds_history.specs.declared.page.ClusterTrees.{ClusterTrees}
use Rattle.xds_history.specs.declared.page.Page.{Page}
use Rattle.xds_history.specs.Words.{first_some}

-- a priority of a leaf as a child of a balancer, with its state
abbrev pub as_child : PriorityState → ChildName × State
as_child p = ((p.leaf, p.priority), p.state)

-- a tree at a driver's entry as an update of its balancer: its priorities with their states, and the time
abbrev pub update_of : Glimpse → Update
update_of g = record { children = map as_child g.children; now = g.now }

-- the trees of a cluster, and back
abbrev pub trees_in : ClusterTrees → Pair Tree
trees_in c = record { serving = c.serving; waiting = c.waiting }

abbrev pub with_trees : Name → Pair Tree → ClusterTrees
with_trees cluster trees = record { cluster = cluster; serving = trees.serving; waiting = trees.waiting }

-- what stands after the newest entry, and before the first
abbrev pub watched_now : List Page → List Watched
watched_now [] = []
watched_now (p ∷ ps) = p.watched

abbrev pub config_now : List Page → Option Config
config_now [] = None
config_now (p ∷ ps) = p.config

abbrev pub trees_now : List Page → List ClusterTrees
trees_now [] = []
trees_now (p ∷ ps) = p.trees

abbrev pub find_watched : Key → List Watched → Option Watched
find_watched key watched = find (λ w. is_key key w.key) watched

-- the latest snapshot
abbrev pub latest : List Page → Option Snapshot
latest ps = first_some (λ p. p.snapshot) ps

abbrev pub latest_number : List Page → Option ℕ
latest_number ps = option_map (λ x. x.number) (latest ps)
