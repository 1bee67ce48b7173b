use Rattle.std.proofs.Common.{◌≡◌, ◌++◌, take}
use Rattle.book_fates.proofs.timed_fates.push_copies.Given as goal

abbrev pub invariant-loop-key : goal.invariant-loop-key
invariant-loop-key l = l.keys ≡ l.fn.keys ++ take l.key-index l.more
