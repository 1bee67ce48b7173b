use Rattle.std.proofs.Common.{◌≡◌, take}
use Rattle.std.specs.Prelude.{filter}
use Rattle.book_fates.specs.Timing.{is_turned}
use Rattle.book_fates.proofs.timing.turned_keys.Given as goal

abbrev pub invariant-loop-key : goal.invariant-loop-key
invariant-loop-key l = l.turned ≡ filter (λ key. is_turned l.turn key.home) (take l.key-index l.keys)
