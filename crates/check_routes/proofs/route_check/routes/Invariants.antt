use Rattle.std.proofs.Common.{◌<◌, ◌^◌, length, Ok}
use Rattle.check_steps.specs.Asking.{AsksUntil}
use Rattle.check_routes.proofs.RouteLemmas.{AreBelow, AreUnderWay}
use Rattle.check_routes.proofs.route_check.routes.Given as goal

abbrev pub invariant-loop-place : goal.invariant-loop-place
invariant-loop-place g l = record {
  few : length l.raws < 2 ^ 31;
  value : AreUnderWay l.raws l.place l.routes l.asked;
  asked : AsksUntil l.fn.asked l.asked (g.P.Patterns.refused l.fn.patterns) (g.P.Patterns.refused l.patterns) (Ok tt);
  lawful : AreBelow l.place l.routes;
}
