use Rattle.std.proofs.Common.{take}
use Rattle.tree_steps.specs.Users.{Grows, ReadsLeaves}
use Rattle.tree_steps.proofs.users.Users.add_leaves.Given as goal

abbrev pub invariant-loop-leaf : goal.invariant-loop-leaf
invariant-loop-leaf l = record {
  grows : Grows l.initial.self l.self;
  added : ReadsLeaves l.self l.place (take l.leaf-index l.leaves);
}
