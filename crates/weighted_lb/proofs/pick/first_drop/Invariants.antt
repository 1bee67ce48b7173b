use Rattle.std.proofs.Common.{◌≡◌, ◌+◌, drop}
use Rattle.weighted_lb.specs.Pick.{dropped_from}
use Rattle.weighted_lb.proofs.pick.first_drop.Given as goal

abbrev pub invariant-loop-i : goal.invariant-loop-i
invariant-loop-i l = dropped_from (l.i + 1) l.word (drop l.i l.drops) ≡ dropped_from 1 l.word l.drops
