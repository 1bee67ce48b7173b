use Rattle.std.proofs.Common.{◌≡◌, ◌+◌, [], take, filter}
use Rattle.route_match.specs.Routes.{route_met}
use Rattle.route_match.proofs.route_choice.take_route.Given as goal

abbrev pub invariant-loop-at : goal.invariant-loop-at
invariant-loop-at g l = record {
  steps : l.steps ≡ l.fn.steps + l.at;
  none : filter (route_met l.call) (take l.at l.list) ≡ [];
}
