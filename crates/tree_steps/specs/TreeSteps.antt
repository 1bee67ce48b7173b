-- The trees of a cluster as one step from those before (gRFC A56, A74, and this project's own graceful switch).
use Rattle.std.specs.Prelude.{ℕ, Bool, true, false, not, if◌then◌else◌, List, [], map, get_or, slice_get, Option, Some, None, option_map}
use Rattle.std.specs.Option.{option_map_or}
use Rattle.std.specs.List.{zip}
use Rattle.xc_base.specs.declared.names.State.{State}
use Rattle.xc_base.specs.declared.names.Time.{Time}
use Rattle.xds_config.specs.declared.config.Leaves.{Leaves}
use Rattle.xds_config.specs.declared.endpoint_values.Locality.{Locality}
use Rattle.priority_lb.specs.declared.facts.ChildFacts.{ChildFacts}
use Rattle.priority_lb.specs.ChildWalk.{chosen}
use Rattle.priority_lb.specs.Step.{fresh, step, walk, seen, carried, view_of}
use Rattle.priority_lb.specs.ChildHistories.{Name}
use Rattle.priority_lb.specs.ChildLaws.{places}
use Rattle.graceful_switch.specs.Takeover.{Pair, settled}
use Rattle.tree_steps.specs.declared.tree_view.NamedChild.{NamedChild}
use Rattle.tree_steps.specs.declared.tree_view.TreeView.{TreeView}
use Rattle.tree_steps.specs.Reports.{Reports, at_priority, localities_of, children_of, names_of, states_in}
use Rattle.tree_steps.specs.TreePickers.{picker_at}

-- what is kept of a tree: the leaves that it followed last, what is kept of each child, and the place of the chosen one
pub record TreeFacts : Type 0 where
  pub leaves : Leaves
  pub children : List ChildFacts
  pub chosen : ℕ

-- a new tree has no children yet
abbrev pub names_before : Option TreeFacts → List Name
names_before tree = option_map_or (λ t. names_of t.leaves.leaves) tree []

abbrev pub children_before : Option TreeFacts → List ChildFacts
children_before tree = option_map_or (λ t. t.children) tree []

-- the children of these leaves, each as it was before where it was named, else new
abbrev pub begun : Leaves → Option TreeFacts → List ChildFacts
begun leaves tree = carried (places (names_of leaves.leaves) (names_before tree)) (children_before tree)

abbrev pub stepped : Time → Leaves → List ChildFacts → List State → TreeFacts
stepped now leaves children states = record {
  leaves = leaves;
  children = step now children states;
  chosen = chosen (map seen (walk now children states));
}

-- a tree after an update at which it follows these leaves; none before is a new one
abbrev pub followed : Time → Reports → Leaves → Option TreeFacts → TreeFacts
followed now reports leaves tree = stepped now leaves (begun leaves tree) (states_in reports leaves.leaves)

-- a tree after an update at which it stays with its leaves
abbrev pub stayed : Time → Reports → TreeFacts → TreeFacts
stayed now reports tree = followed now reports tree.leaves (Some tree)

-- the state of the chosen child
abbrev pub state_of : TreeFacts → State
state_of tree = (get_or tree.children tree.chosen fresh).state

abbrev pub is_same : Bool → Bool → Bool
is_same true other = other
is_same false other = not other

-- a tree of the kind of the leaves, plain or of an aggregate
abbrev pub has_kind : Leaves → TreeFacts → Bool
has_kind leaves tree = is_same tree.leaves.aggregate leaves.aggregate

-- One tree serves, and another may wait. Where the serving one has the kind of the cluster's leaves it follows them, and
-- none waits. Else the other one, which waited or is new, follows them: it waits where the old one is READY and it is
-- CONNECTING, and serves alone if not.
abbrev pub trees_after : Time → Reports → Leaves → Option (Pair TreeFacts) → Pair TreeFacts
trees_after now reports leaves None = record { serving = followed now reports leaves None; waiting = None }
trees_after now reports leaves (Some trees) =
    if has_kind leaves trees.serving then record { serving = followed now reports leaves (Some trees.serving); waiting = None }
    else settled state_of (stayed now reports trees.serving) (Some (followed now reports leaves trees.waiting))

abbrev pub named_child : Name × ChildFacts → NamedChild
named_child child = record { leaf = child.0.0; priority = child.0.1; view = view_of child.1 }

abbrev pub named_children : TreeFacts → List NamedChild
named_children tree = map named_child (zip (names_of tree.leaves.leaves) tree.children)

-- the localities of the chosen child, in their order
abbrev pub chosen_localities : TreeFacts → List Locality
chosen_localities tree = option_map_or (λ child. at_priority child.1 (localities_of child.0)) (slice_get (children_of tree.leaves.leaves) tree.chosen) []

-- what is seen of a cluster's trees
abbrev pub trees_view : Reports → Pair TreeFacts → TreeView
trees_view reports trees = record {
  children = named_children trees.serving;
  chosen = trees.serving.chosen;
  waiting = option_map named_children trees.waiting;
  picker = picker_at reports trees.serving.leaves.leaves trees.serving.chosen;
}
