use Rattle.std.proofs.Common.{take}
use Rattle.book_fates.specs.FateSteps.{Stepped, out_among}
use Rattle.book_fates.proofs.fates.take_out.Given as goal

abbrev pub invariant-loop-key : goal.invariant-loop-key
invariant-loop-key l = Stepped l.fn.cache l.cache (out_among (take l.key-index l.keys))
