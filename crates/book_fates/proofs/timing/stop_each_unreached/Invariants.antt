use Rattle.std.proofs.Common.{take, ◌&&◌, not}
use Rattle.config_assembly.specs.Watching.{has_key}
use Rattle.book_fates.specs.Timing.{StoppedBy}
use Rattle.book_fates.proofs.timing.stop_each_unreached.Given as goal

abbrev pub invariant-loop-key : goal.invariant-loop-key
invariant-loop-key l = StoppedBy l.fn.timers l.timers (λ key. has_key (take l.key-index l.before) key && not (has_key l.reached.keys key))
