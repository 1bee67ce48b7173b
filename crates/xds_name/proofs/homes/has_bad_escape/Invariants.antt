use Rattle.std.proofs.Common.{◌≡◌, drop}
use Rattle.xds_name.specs.Names.{has_bad_escape}
use Rattle.xds_name.proofs.homes.has_bad_escape.Given as goal

abbrev pub invariant-loop-i : goal.invariant-loop-i
invariant-loop-i l = has_bad_escape (drop l.i l.text) ≡ has_bad_escape l.text
