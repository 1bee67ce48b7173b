use Rattle.std.proofs.Common.{take}
use Rattle.book_fates.specs.Timing.{Stopped}
use Rattle.book_fates.proofs.timing.stop_each.Given as goal

abbrev pub invariant-loop-key : goal.invariant-loop-key
invariant-loop-key l = Stopped l.fn.timers l.timers (take l.key-index l.keys)
