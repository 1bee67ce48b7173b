use Rattle.std.proofs.Common.{rules, sym, ap, ◌∙◌, append-nil}
use Rattle.std.proofs.lemmas.List.Elements.{All-nil, All-push}
use Rattle.resource_check.specs.Deliveries.{IsLawfulDelivery}
use Rattle.resource_check.proofs.DeliveryLemmas.{all_done, none_checked, parts_more}
use Rattle.resource_check.proofs.preparation.check_resources.Goals as goal

pub loop-resource-init : goal.loop-resource-init
loop-resource-init g c = record {
  checked = λ refuses agrees. none_checked refuses c.args.kind c.args.resources.now _ _ _ (search rules) (λ name. search rules) (search rules);
  told = search (rules, append-nil);
  lawful = rw c.new-parts.ensures (All-nil (IsLawfulDelivery c.args.kind));
}

pub loop-resource-preserved : goal.loop-resource-preserved
loop-resource-preserved g c = record {
  checked = rw c.in_ok-push.ensures.ok
      (parts_more c.args.kind c.args.resources.now c.loop-resource.resource-index c.resource-item.result c.loop-resource.parts c.loop-resource.names c.apart.new.names c.in_ok-delivery.delivery c.in_ok-part.part
      c.loop-resource-test.true c.resource-item.is c.loop-resource.invariant.checked c.in_ok-delivery.ensures.asked c.in_ok-delivery.ensures.part c.in_ok-delivery.ensures.gains c.in_ok-part.ensures.part c.in_ok-part.ensures.names);
  told = c.in_ok-delivery.ensures.told _ c.loop-resource.invariant.told;
  lawful = rw c.in_ok-push.ensures.ok (All-push (IsLawfulDelivery c.args.kind) c.loop-resource.parts c.in_ok-part.part c.loop-resource.invariant.lawful (c.in_ok-part.ensures.lawful c.args.kind c.in_ok-delivery.ensures.lawful));
}

pub returns-clause-parts : goal.returns-clause-parts
returns-clause-parts g c =
    let done = all_done c.args.kind c.args.resources.now c.loop-resource.resource-index c.loop-resource.parts c.loop-resource.names c.loop-resource.asked c.loop-resource-test.false c.loop-resource.invariant.checked c.agree.ensures in
    rw c.into_refused.ensures done.parts_are

pub returns-clause-refused : goal.returns-clause-refused
returns-clause-refused g c =
    let done = all_done c.args.kind c.args.resources.now c.loop-resource.resource-index c.loop-resource.parts c.loop-resource.names c.loop-resource.asked c.loop-resource-test.false c.loop-resource.invariant.checked c.agree.ensures in
    rw c.into_refused.ensures done.refused_are
