use Rattle.std.proofs.Common.{◌≡◌, take}
use Rattle.std.specs.Prelude.{All}
use Rattle.resource_check.specs.Deliveries.{IsLawfulDelivery}
use Rattle.resource_check.proofs.DeliveryLemmas.{AreChecked}
use Rattle.listed_check.specs.ListedAnswers.{refuses}
use Rattle.listed_check.specs.ListedTexts.{HasThese, RefusesThese}
use Rattle.listed_check.proofs.listed_resources.check_resources.Given as goal

abbrev pub invariant-loop-resource : goal.invariant-loop-resource
invariant-loop-resource g l = record {
  checked : AreChecked (refuses l.listed) l.kind (take l.resource-index l.resources) l.parts l.names l.stops;
  seen : HasThese l.seen l.stops;
  listed : RefusesThese l.asked l.listed;
  told : g.P.Patterns.refused l.patterns ≡ g.P.Patterns.refused l.fn.patterns;
  lawful : All (IsLawfulDelivery l.kind) l.parts;
}
