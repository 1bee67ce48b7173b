use Rattle.std.proofs.Common.{◌≡◌, true, replicate}
use Rattle.place_marks.proofs.marks.Marks.all.Given as goal

abbrev pub invariant-loop : goal.invariant-loop
invariant-loop l = l.marks ≡ replicate l.counter true
