use Rattle.std.proofs.Common.{◌≡◌, ◌++◌}
use Rattle.std.specs.Prelude.{All}
use Rattle.resource_check.specs.Deliveries.{IsLawfulDelivery}
use Rattle.resource_check.proofs.DeliveryLemmas.{AreUnderWay}
use Rattle.resource_check.proofs.preparation.check_resources.Given as goal

abbrev pub invariant-loop-resource : goal.invariant-loop-resource
invariant-loop-resource g l = record {
  checked : AreUnderWay l.kind l.resources l.resource-index l.parts l.names l.asked;
  told : g.P.Patterns.refused l.patterns ≡ g.P.Patterns.refused l.fn.patterns ++ l.asked.refused;
  lawful : All (IsLawfulDelivery l.kind) l.parts;
}
