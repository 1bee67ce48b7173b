use Rattle.std.proofs.Common.{◌∙◌}
use Rattle.std.proofs.lemmas.List.Elements.{All-push}
use Rattle.resource_check.specs.Deliveries.{IsLawfulDelivery}
use Rattle.listed_check.proofs.ListedLemmas.{listed_more, still_these}
use Rattle.listed_check.proofs.listed_resources.check_resources.Goals as goal

pub loop-resource-preserved : goal.loop-resource-preserved
loop-resource-preserved g c =
    let inv = c.loop-resource.invariant in
    record {
      checked = rw c.in_ok-push.ensures.ok
          (listed_more c.args.listed.now c.args.kind c.args.resources.now c.loop-resource.resource-index c.resource-item.result c.loop-resource.parts c.loop-resource.names c.apart.new.names c.loop-resource.stops c.add_once.new.texts
          c.in-Some.stopped.part c.in_ok-part.part c.in-Some.stopped.text c.loop-resource-test.true c.resource-item.is inv.checked ((rw c.in-Some.is at c.in_ok-stopped.ensures.part) c.args.listed.now inv.listed)
          ((rw c.in-Some.is at c.in_ok-stopped.ensures.text) c.args.listed.now inv.listed) c.in_ok-part.ensures.part c.in_ok-part.ensures.names c.in_ok-add_once.ensures.texts);
      seen = c.in_ok-add_once.ensures.seen;
      listed = still_these c.loop-resource.asked c.check_listed.new.asked c.args.listed.now (rw c.in-Some.is at c.in_ok-stopped.ensures.refused) inv.listed;
      told = (rw c.in-Some.is at c.in_ok-stopped.ensures.told) ∙ inv.told;
      lawful = rw c.in_ok-push.ensures.ok
          (All-push (IsLawfulDelivery c.args.kind) c.loop-resource.parts c.in_ok-part.part inv.lawful (c.in_ok-part.ensures.lawful c.args.kind (rw c.in-Some.is at c.in_ok-stopped.ensures.lawful)));
    }
