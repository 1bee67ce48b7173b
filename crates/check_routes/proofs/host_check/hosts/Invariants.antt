use Rattle.std.proofs.Common.{◌≡◌, length, Ok}
use Rattle.std.specs.Prelude.{All}
use Rattle.xds_config.specs.RouteValues.{IsLawfulHost}
use Rattle.check_steps.specs.Asking.{AsksUntil}
use Rattle.check_routes.specs.RouteTable.{host_of}
use Rattle.check_steps.proofs.LoopLemmas.{IsUnderWay}
use Rattle.check_routes.proofs.host_check.hosts.Given as goal

abbrev pub invariant-loop-raw : goal.invariant-loop-raw
invariant-loop-raw g l = record {
  value : IsUnderWay host_of l.raws l.raw-index l.hosts l.asked;
  asked : AsksUntil l.fn.asked l.asked (g.P.Patterns.refused l.fn.patterns) (g.P.Patterns.refused l.patterns) (Ok tt);
  lawful : All IsLawfulHost l.hosts;
  len : length l.hosts ≡ l.raw-index;
}
