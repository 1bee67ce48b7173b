use Rattle.std.proofs.Common.{◌≡◌, length}
use Rattle.book_picks.proofs.cluster_rows.bare_rows.Given as goal

abbrev pub invariant-loop : goal.invariant-loop
invariant-loop l = length l.rows.items ≡ l.counter
