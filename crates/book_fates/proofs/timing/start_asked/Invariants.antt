use Rattle.std.proofs.Common.{take, ◌&&◌}
use Rattle.config_assembly.specs.Watching.{has_key}
use Rattle.book_fates.specs.Timing.{StartedBy, asks_at}
use Rattle.book_fates.proofs.timing.start_asked.Given as goal

abbrev pub invariant-loop-key : goal.invariant-loop-key
invariant-loop-key l = StartedBy l.fn.timers l.timers (λ key. has_key (take l.key-index l.keys) key && asks_at l.sent key key.home) l.now
