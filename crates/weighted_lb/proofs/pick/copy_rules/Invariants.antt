use Rattle.std.proofs.Common.{◌≡◌, take}
use Rattle.weighted_lb.proofs.pick.copy_rules.Given as goal

abbrev pub invariant-loop-rule : goal.invariant-loop-rule
invariant-loop-rule l = l.copies ≡ take l.rule-index l.drops
