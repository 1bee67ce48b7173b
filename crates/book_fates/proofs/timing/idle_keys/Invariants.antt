use Rattle.std.proofs.Common.{◌≡◌, take}
use Rattle.std.specs.Prelude.{filter}
use Rattle.book_fates.specs.Timing.{is_idle}
use Rattle.book_fates.proofs.timing.idle_keys.Given as goal

abbrev pub invariant-loop-key : goal.invariant-loop-key
invariant-loop-key l = l.idle ≡ filter (is_idle l.timers) (take l.key-index l.keys)
