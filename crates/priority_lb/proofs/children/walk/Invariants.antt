use Rattle.priority_lb.proofs.WalkLemmas.{WalkedTo}
use Rattle.priority_lb.proofs.children.walk.Given as goal

abbrev pub invariant-loop-i : goal.invariant-loop-i
invariant-loop-i l = WalkedTo l.now l.initial.children l.states l.i l.children l.reached l.behind l.stop
