-- The texts of clusters' trees.
use Rattle.std.specs.Prelude.{ℕ, ◌+◌, ◌-◌, ◌++◌, ◌==◌, Bool, true, false, ◌&&◌, ◌||◌, if◌then◌else◌, List, [], ◌∷◌, length, position, Option, Some, None, unwrap_or, Result, Ok, Err, codes}
use Rattle.std.specs.Fmt.{decimal}
use Rattle.xc_base.specs.Reasons.{reason_word}
use Rattle.xc_base.specs.declared.reason.Reason.{Reason}
use Rattle.xc_base.specs.declared.names.State.{State}
use Rattle.xc_base.specs.declared.names.State.TheVariants.{Connecting, Ready, Failing}
use Rattle.priority_lb.specs.declared.view.ChildView.{ChildView}
use Rattle.weighted_lb.specs.States.{is_connecting, is_ready}
use Rattle.tree_steps.specs.declared.tree_view.NamedChild.{NamedChild}
use Rattle.tree_steps.specs.declared.tree_view.TreeView.{TreeView}
use Rattle.tree_text.specs.Escapes.{escaped}

abbrev pub state_word : State → List ℕ
state_word Connecting = codes "connecting"
state_word Ready = codes "ready"
state_word Failing = codes "failing"

-- a word that stands only where it holds
abbrev pub if_so : Bool → List ℕ → List ℕ
if_so true word = word
if_so false word = []

-- the state of a child that is there, then the marks of one that is pending and of one that is out of use
abbrev pub view_text : ChildView → List ℕ
view_text view =
    if view.there then state_word view.state ++ if_so view.pending (codes "+") ++ if_so view.unused (codes "~")
    else codes "none"

unfoldable pub child_text : NamedChild → List ℕ
child_text child = escaped child.leaf ++ codes "/" ++ decimal child.priority ++ codes ":" ++ view_text child.view

-- what stands before a child of this place: a comma behind another child, and the mark of the chosen one
abbrev pub before_child : ℕ → ℕ → List ℕ
before_child chosen place = (if place == 0 then [] else codes ",") ++ if_so (place == chosen) (codes "*")

-- the children from this place on
unfoldable pub children_from : ℕ → ℕ → List NamedChild → List ℕ
children_from chosen place [] = []
children_from chosen place (child ∷ children) =
    before_child chosen place ++ child_text child ++ children_from chosen (place + 1) children

-- the children of a tree by the place of the chosen one
abbrev pub children_text : ℕ → List NamedChild → List ℕ
children_text chosen children = children_from chosen 0 children

-- a child that can be chosen at once: it is there, and READY or pending
abbrev pub is_near : ChildView → Bool
is_near view = view.there && (is_ready view.state || view.pending)

-- a child that is there and CONNECTING
abbrev pub is_trying : ChildView → Bool
is_trying view = view.there && is_connecting view.state

-- The place of the chosen child of a tree that waits: the first that is there and READY or pending, else the first
-- CONNECTING one that is there, else the last.
abbrev pub waiting_place : List NamedChild → ℕ
waiting_place children =
    unwrap_or (position (λ c. is_near c.view) children)
    (unwrap_or (position (λ c. is_trying c.view) children) (length children - 1))

abbrev pub waiting_text : Option (List NamedChild) → List ℕ
waiting_text None = []
waiting_text (Some children) = codes "|" ++ children_text (waiting_place children) children

-- the children of the serving tree, then those of the tree that waits
abbrev pub trees_text : TreeView → List ℕ
trees_text view = children_text view.chosen view.children ++ waiting_text view.waiting

-- the trees of a cluster, or the reason why it has none
abbrev pub tree_text : Result TreeView Reason → List ℕ
tree_text (Ok tree) = trees_text tree
tree_text (Err reason) = codes "!" ++ reason_word reason
