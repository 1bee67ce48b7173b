use Rattle.std.proofs.Common.{◌≡◌, drop}
use Rattle.header_match.specs.Texts.{contains}
use Rattle.header_match.proofs.texts.contains.Given as goal

abbrev pub invariant-loop-at : goal.invariant-loop-at
invariant-loop-at l = contains l.no_case l.text l.part ≡ contains l.no_case (drop l.at l.text) l.part
