use Rattle.std.proofs.Common.{length}
use Rattle.tree_timers.specs.EndsKept.{EachLeftOrTaken, KeepsPlaces}
use Rattle.tree_timers.proofs.timer_ends.TimerEnds.take_due.Given as goal

abbrev pub invariant-loop-end : goal.invariant-loop-end
invariant-loop-end l = EachLeftOrTaken l.fn.self l.self-inside.ends l.places l.now × KeepsPlaces l.fn.places l.places

abbrev pub decreases-loop-end : goal.decreases-loop-end
decreases-loop-end l = length l.self-inside.ends.keys
