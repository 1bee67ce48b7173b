use Rattle.std.proofs.Common.{◌≡◌, take, map}
use Rattle.watch_timers.proofs.timers.copies.Given as goal

abbrev pub invariant-loop-key : goal.invariant-loop-key
invariant-loop-key l = l.copies ≡ map (λ key. key.now) (take l.key-index l.keys)
