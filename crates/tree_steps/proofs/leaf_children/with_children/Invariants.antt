use Rattle.std.proofs.Common.{◌≡◌, ◌++◌, ℕ, map}
use Rattle.std.specs.List.{range_with_len}
use Rattle.tree_steps.specs.Reports.{Child}
use Rattle.tree_steps.specs.Lent.{all_lent}
use Rattle.tree_steps.proofs.leaf_children.with_children.Given as goal

abbrev pub invariant-loop-priority : goal.invariant-loop-priority
invariant-loop-priority l = all_lent l.children.items ≡ all_lent l.initial.children.items ++ map (λ (p : ℕ). let c : Child = (l.leaf, p) in c) (range_with_len 0 l.priority)
