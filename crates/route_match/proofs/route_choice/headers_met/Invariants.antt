use Rattle.std.proofs.Common.{◌≡◌, true, take}
use Rattle.std.specs.List.{list_all}
use Rattle.header_match.specs.Headers.{header_met}
use Rattle.route_match.proofs.route_choice.headers_met.Given as goal

abbrev pub invariant-loop-rule : goal.invariant-loop-rule
invariant-loop-rule l = list_all (λ rule. header_met rule l.call) (take l.rule-index l.rules) ≡ true
