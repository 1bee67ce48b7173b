use Rattle.std.proofs.Common.{Ok}
use Rattle.check_steps.specs.Asking.{AsksUntil}
use Rattle.check_routes.specs.HeaderTable.{header_rule}
use Rattle.check_steps.proofs.LoopLemmas.{IsUnderWay}
use Rattle.check_routes.proofs.header_check.header_rules.Given as goal

abbrev pub invariant-loop-raw : goal.invariant-loop-raw
invariant-loop-raw g l = record {
  value : IsUnderWay header_rule l.raws l.raw-index l.rules l.asked;
  asked : AsksUntil l.fn.asked l.asked (g.P.Patterns.refused l.fn.patterns) (g.P.Patterns.refused l.patterns) (Ok tt);
}
