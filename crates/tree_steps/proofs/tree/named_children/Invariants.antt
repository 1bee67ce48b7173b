use Rattle.std.proofs.Common.{◌≡◌, map, take}
use Rattle.std.specs.List.{zip}
use Rattle.tree_steps.specs.Reports.{name_of}
use Rattle.tree_steps.specs.Lent.{all_lent}
use Rattle.tree_steps.specs.TreeSteps.{named_child}
use Rattle.tree_steps.proofs.tree.named_children.Given as goal

abbrev pub invariant-loop-place : goal.invariant-loop-place
invariant-loop-place l = l.named ≡ map named_child (take l.place (zip (map name_of (all_lent l.child-items)) l.tree.children))
