-- What is seen of trees, and their pickers (gRFC A56, gRPC's weighted_target and round_robin policies).
use Rattle.std.specs.Prelude.{ℕ, ◌==◌, List, [], ◌∷◌, map, length, if◌then◌else◌, Option, Some, None, Result, Ok, Err, option_map}
use Rattle.std.specs.List.{list_all, filter, filter_map, find, enumerate_from}
use Rattle.std.specs.Option.{option_map_or}
use Rattle.std.specs.Str.{bytes_eq}
use Rattle.xc_base.specs.declared.names.State.{State}
use Rattle.xc_base.specs.declared.reason.Reason.{Reason}
use Rattle.xds_config.specs.declared.endpoint_values.EndpointValue.{EndpointValue}
use Rattle.xds_config.specs.declared.endpoint_values.Locality.{Locality}
use Rattle.weight_pick.specs.declared.fraction.DropRule.{DropRule}
use Rattle.xds_config.specs.declared.config.Leaf.{Leaf}
use Rattle.xds_config.specs.declared.config.Leaves.{Leaves}
use Rattle.xds_config.specs.declared.config.ClusterEntry.{ClusterEntry}
use Rattle.xds_config.specs.declared.config.Config.{Config}
use Rattle.weighted_lb.specs.declared.picker.Part.{Part}
use Rattle.weighted_lb.specs.declared.picker.PickBody.{PickBody}
use Rattle.weighted_lb.specs.declared.picker.Picker.{Picker}
use Rattle.weighted_lb.specs.States.{is_ready}
use Rattle.weighted_lb.specs.Pick.{picker_of}
use Rattle.priority_lb.specs.declared.facts.ChildFacts.{ChildFacts}
use Rattle.priority_lb.specs.Step.{view_of}
use Rattle.priority_lb.specs.ChildHistories as children
use Rattle.graceful_switch.specs.Takeover.{Pair}
use Rattle.tree_steps.specs.declared.tree_view.NamedChild.{NamedChild}
use Rattle.tree_steps.specs.declared.tree_view.TreeView.{TreeView}
use Rattle.config_assembly.specs.Orders.{Name}
use Rattle.xds_history.specs.declared.page.Tree.{Tree}
use Rattle.xds_history.specs.declared.page.ClusterTrees.{ClusterTrees}
use Rattle.xds_history.specs.Trees.{of_priority, children_now, chosen_child, chosen_place, leaves_now, trees_of}

-- ---- pickers

-- the leaf that a child is a priority of, and its localities
abbrev pub leaf_named : Tree → Name → Option Leaf
leaf_named tree name = find (λ leaf. bytes_eq name leaf.name) (leaves_now tree)

abbrev pub child_localities : Tree → children.Name → List Locality
child_localities tree child = option_map_or (of_priority child.1) (leaf_named tree child.0) []

-- a locality that is READY: its place, weight and READY addresses
abbrev pub part_of : (Name → State) → ℕ × Locality → Option Part
part_of state at = with_ready (filter (λ address. is_ready (state address)) at.1.addresses)
  where
    with_ready : List Name → Option Part
    with_ready [] = None
    with_ready (address ∷ more) = Some record { locality = at.0; weight = at.1.weight; ready = address ∷ more }

abbrev pub parts_of : (Name → State) → List Locality → List Part
parts_of state localities = filter_map (part_of state) (enumerate_from 0 localities)

abbrev pub drops_of : Option Leaf → List DropRule
drops_of None = []
drops_of (Some leaf) = in_state leaf.state
  where
    in_state : Result EndpointValue Reason → List DropRule
    in_state (Ok endpoints) = endpoints.drops
    in_state (Err reason) = []

-- why a failing child fails: its leaf's reason, else that it has no address, else that none can be reached
abbrev pub fail_reason : Option Leaf → List Locality → Reason
fail_reason leaf localities = by_state (option_map (λ l. l.state) leaf)
  where
    by_state : Option (Result EndpointValue Reason) → Reason
    by_state (Some (Err reason)) = reason
    by_state _ = if list_all (λ l. length l.addresses == 0) localities then Reason.NoEndpoints else Reason.Failing

-- a READY child has its READY localities behind the drop rules, a CONNECTING one queues, a failing one fails
abbrev pub picker_in : (Name → State) → Option Leaf → List Locality → State → Picker
picker_in state leaf localities State.Ready = picker_of (drops_of leaf) (parts_of state localities)
picker_in state leaf localities State.Connecting = record { drops = drops_of leaf; body = PickBody.Queue }
picker_in state leaf localities State.Failing = record { drops = drops_of leaf; body = PickBody.Fail (fail_reason leaf localities) }

abbrev pub picker_at : (Name → State) → Tree → children.Name × ChildFacts → Picker
picker_at state tree child = picker_in state (leaf_named tree child.0.0) (child_localities tree child.0) child.1.state

abbrev pub no_picker : Picker
no_picker = record { drops = []; body = PickBody.Fail Reason.Failing }

-- the picker of a tree is its chosen child's
abbrev pub picker : (Name → State) → Tree → Picker
picker state tree = option_map_or (picker_at state tree) (chosen_child tree) no_picker

-- ---- views

abbrev pub named_child : children.Name × ChildFacts → NamedChild
named_child child = record { leaf = child.0.0; priority = child.0.1; view = view_of child.1 }

abbrev pub children_view : Tree → List NamedChild
children_view tree = map named_child (children_now tree)

abbrev pub tree_view : (Name → State) → Pair Tree → TreeView
tree_view state trees = record {
  children = children_view trees.serving;
  chosen = chosen_place trees.serving;
  waiting = option_map children_view trees.waiting;
  picker = picker state trees.serving;
}

abbrev pub view_with : (Name → State) → Option (Pair Tree) → Result TreeView Reason
view_with state None = Err Reason.Failing
view_with state (Some trees) = Ok (tree_view state trees)

abbrev pub cluster_view : (Name → State) → List ClusterTrees → ClusterEntry → Result TreeView Reason
cluster_view state trees entry = in_state entry.state
  where
    in_state : Result Leaves Reason → Result TreeView Reason
    in_state (Err reason) = Err reason
    in_state (Ok leaves) = view_with state (trees_of entry.name trees)

-- for each cluster of the configuration its reason, or the view of its trees
abbrev pub views : (Name → State) → List ClusterTrees → Config → List (Result TreeView Reason)
views state trees config = map (cluster_view state trees) config.clusters
