use Rattle.std.proofs.Common.{◌≡◌, length, take}
use Rattle.book_streams.proofs.changed_names.are_same.Given as goal

abbrev pub invariant-loop-place : goal.invariant-loop-place
invariant-loop-place l = (length l.keys ≡ length l.others) × (take l.place l.keys ≡ take l.place l.others)
