use Rattle.std.proofs.Common.{◌≡◌, take}
use Rattle.check_routes.proofs.host_check.copies_of.Given as goal

abbrev pub invariant-loop-text : goal.invariant-loop-text
invariant-loop-text l = l.copy ≡ take l.text-index l.texts
