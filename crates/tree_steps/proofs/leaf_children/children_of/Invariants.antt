use Rattle.std.proofs.Common.{◌≡◌, ◌++◌, drop}
use Rattle.tree_steps.specs.Reports.{children_of}
use Rattle.tree_steps.specs.Lent.{all_lent}
use Rattle.tree_steps.proofs.leaf_children.children_of.Given as goal

abbrev pub invariant-loop-leaf : goal.invariant-loop-leaf
invariant-loop-leaf l = all_lent l.children.items ++ children_of (drop l.leaf-index l.leaves) ≡ children_of l.leaves
