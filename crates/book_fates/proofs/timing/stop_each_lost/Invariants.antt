use Rattle.std.proofs.Common.{None, ◌≤◌, ◌+◌, take, ◌&&◌}
use Rattle.config_assembly.specs.Watching.{has_key}
use Rattle.book_fates.specs.Timing.{StoppedBy, is_lost}
use Rattle.book_fates.proofs.timing.stop_each_lost.Given as goal

abbrev pub invariant-loop-key : goal.invariant-loop-key
invariant-loop-key g l = record {
  stopped : StoppedBy l.fn.timers l.timers (λ key. has_key (take l.key-index l.keys) key && is_lost None l.cache key);
  counted : l.steps ≤ l.fn.steps + l.key-index;
}
