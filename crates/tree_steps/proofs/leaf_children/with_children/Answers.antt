use Rattle.std.proofs.Common.{refl}
use Rattle.tree_steps.proofs.ChildLemmas.{child_more}
use Rattle.tree_steps.proofs.leaf_children.with_children.Goals as goal

pub loop-priority-preserved : goal.loop-priority-preserved
loop-priority-preserved c = child_more _ _ _ c.args.leaf.now c.loop-priority.priority _ c.loop-priority.invariant c.in_ok-push.ensures.items refl
