-- The trees of the clusters: their children, and which serve and which wait (gRFC A56, A37; the switch between kinds of
-- cluster is this project's own, after gRPC's).
use Rattle.std.specs.Prelude.{ℕ, ◌+◌, ◌==◌, max, List, [], ◌∷◌, map, Bool, not, if◌then◌else◌, Option, Some, None, Result, Ok, Err, unwrap_or, option_map, slice_get}
use Rattle.std.specs.List.{find, filter, filter_map, flat_map, range_with_len, zip}
use Rattle.std.specs.Option.{option_map_or}
use Rattle.std.specs.Str.{bytes_eq}
use Rattle.xc_base.specs.declared.names.State.{State}
use Rattle.xc_base.specs.declared.names.Time.{Time}
use Rattle.xc_base.specs.declared.reason.Reason.{Reason}
use Rattle.xds_config.specs.declared.endpoint_values.EndpointValue.{EndpointValue}
use Rattle.xds_config.specs.declared.endpoint_values.Locality.{Locality}
use Rattle.xds_config.specs.declared.config.Leaf.{Leaf}
use Rattle.xds_config.specs.declared.config.Leaves.{Leaves}
use Rattle.xds_config.specs.declared.config.ClusterEntry.{ClusterEntry}
use Rattle.xds_config.specs.declared.config.Config.{Config}
use Rattle.weighted_lb.specs.States.{joined}
use Rattle.priority_lb.specs.declared.facts.ChildFacts.{ChildFacts}
use Rattle.priority_lb.specs.ChildWalk.{chosen}
use Rattle.priority_lb.specs.ChildHistories.{Update, names_of}
use Rattle.priority_lb.specs.ChildHistories as children
use Rattle.priority_lb.specs.ChildLaws.{all_facts, seen_now}
use Rattle.graceful_switch.specs.Takeover.{Pair, settled}
use Rattle.config_assembly.specs.Orders.{Name}
use Rattle.xds_history.specs.declared.page.PriorityState.{PriorityState}
use Rattle.xds_history.specs.declared.page.Glimpse.{Glimpse}
use Rattle.xds_history.specs.declared.page.Tree.{Tree}
use Rattle.xds_history.specs.declared.page.ClusterTrees.{ClusterTrees}
use Rattle.xds_history.specs.Page.{update_of, trees_in, with_trees}

-- what trees are seen by: the states of addresses, and the time
pub record Present : Type 0 where
  pub state : Name → State
  pub now : Time

-- ---- the priorities of leaves

-- the localities of a leaf; one that is in error has none
abbrev pub localities_of : Leaf → List Locality
localities_of leaf = in_state leaf.state
  where
    in_state : Result EndpointValue Reason → List Locality
    in_state (Ok endpoints) = endpoints.localities
    in_state (Err reason) = []

abbrev pub of_priority : ℕ → Leaf → List Locality
of_priority priority leaf = filter (λ l. l.priority == priority) (localities_of leaf)

-- how many priorities a leaf has: one where it has no localities
abbrev pub priorities : List Locality → ℕ
priorities [] = 1
priorities (l ∷ ls) = max (l.priority + 1) (priorities ls)

abbrev pub locality_state : (Name → State) → Locality → State
locality_state state l = joined (map state l.addresses)

abbrev pub priority_state : (Name → State) → Leaf → ℕ → State
priority_state state leaf priority = joined (map (locality_state state) (of_priority priority leaf))

abbrev pub child_of : (Name → State) → Leaf → ℕ → PriorityState
child_of state leaf priority = record { leaf = leaf.name; priority = priority; state = priority_state state leaf priority }

-- the children of a tree, with their states: the priorities of its leaves, in order
abbrev pub children_of : (Name → State) → List Leaf → List PriorityState
children_of state leaves = flat_map (λ leaf. map (child_of state leaf) (range_with_len 0 (priorities (localities_of leaf)))) leaves

-- ---- a tree over its life

abbrev pub glimpse : Present → List Leaf → Glimpse
glimpse present leaves = record { leaves = leaves; children = children_of present.state leaves; now = present.now }

-- one driver's entry later, with these leaves
abbrev pub grown : Present → List Leaf → Tree → Tree
grown present leaves tree = record tree { life = glimpse present leaves ∷ tree.life }

abbrev pub new_tree : Bool → Tree
new_tree aggregate = record { aggregate = aggregate; life = [] }

abbrev pub leaves_now : Tree → List Leaf
leaves_now tree = newest tree.life
  where
    newest : List Glimpse → List Leaf
    newest [] = []
    newest (g ∷ gs) = g.leaves

abbrev pub updates : Tree → List Update
updates tree = map update_of tree.life

-- the names of its children, with what is known of each
abbrev pub children_now : Tree → List (children.Name × ChildFacts)
children_now tree = zip (names_of (updates tree)) (all_facts (updates tree))

-- the place of the chosen child
abbrev pub chosen_place : Tree → ℕ
chosen_place tree = chosen (seen_now (updates tree))

abbrev pub chosen_child : Tree → Option (children.Name × ChildFacts)
chosen_child tree = slice_get (children_now tree) (chosen_place tree)

-- the state of a tree is its chosen child's
abbrev pub tree_state : Tree → State
tree_state tree = option_map_or (λ c. c.1.state) (chosen_child tree) State.Failing

-- ---- which trees a cluster has

abbrev pub is_same_kind : Bool → Bool → Bool
is_same_kind a b = if a then b else not b

abbrev pub alone : Tree → Pair Tree
alone tree = record { serving = tree; waiting = None }

-- The old tree goes on with its own leaves, and the other one, which waited or is new, follows; the old one serves while it
-- is READY and the other CONNECTING.
abbrev pub switched : Present → Leaves → Pair Tree → Pair Tree
switched present leaves before =
    settled tree_state (grown present (leaves_now before.serving) before.serving)
    (Some (grown present leaves.leaves (unwrap_or before.waiting (new_tree leaves.aggregate))))

-- a cluster that had no tree gets a new one; one of the cluster's kind follows, and none waits then; else they are switched
abbrev pub trees_with : Present → Leaves → Option (Pair Tree) → Pair Tree
trees_with present leaves None = alone (grown present leaves.leaves (new_tree leaves.aggregate))
trees_with present leaves (Some before) =
    if is_same_kind before.serving.aggregate leaves.aggregate then alone (grown present leaves.leaves before.serving)
    else switched present leaves before

abbrev pub trees_of : Name → List ClusterTrees → Option (Pair Tree)
trees_of name all = option_map trees_in (find (λ c. bytes_eq name c.cluster) all)

-- a cluster in error has no tree
abbrev pub cluster_trees : Present → List ClusterTrees → ClusterEntry → Option ClusterTrees
cluster_trees present before entry = in_state entry.state
  where
    in_state : Result Leaves Reason → Option ClusterTrees
    in_state (Err reason) = None
    in_state (Ok leaves) = Some (with_trees entry.name (trees_with present leaves (trees_of entry.name before)))

-- the trees at a driver's entry: none where there is no configuration
abbrev pub trees_after : Present → List ClusterTrees → Option Config → List ClusterTrees
trees_after present before None = []
trees_after present before (Some config) = filter_map (cluster_trees present before) config.clusters
