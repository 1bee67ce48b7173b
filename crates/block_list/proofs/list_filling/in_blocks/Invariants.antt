use Rattle.std.proofs.Common.{◌≡◌}
use Rattle.block_list.specs.Fillings.{IsFilling, filled}
use Rattle.block_list.proofs.list_filling.in_blocks.Given as goal

abbrev pub invariant-loop-member : goal.invariant-loop-member
invariant-loop-member g l = IsFilling l.filling × (filled l.filling ≡ l.yielded)
