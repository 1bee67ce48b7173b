use Rattle.std.proofs.Common.{◌≡◌, sym, subst, ◌∙◌, arith, true, false}
use Rattle.std.specs.Prelude.{if◌then◌else◌}
use Rattle.std.proofs.lemmas.Bool.{not-true, not-false}
use Rattle.check_clusters.specs.declared.localities.Place.{Place}
use Rattle.check_clusters.proofs.OnceLemmas.{is_place, is_held, one_more_taken, one_more_apart, twice, all_once}
use Rattle.check_clusters.proofs.localities.stand_once.Goals as goal

pub returns-then-not-is_new : goal.returns-then-not-is_new
returns-then-not-is_new c =
    let again = subst (λ (p : Place). is_held c.loop-locality.places.keys p ≡ true) c.in_ok-place.ensures (not-false _ (sym c.in_ok-is_new.ensures.added ∙ c.if-not-is_new.true)) in
    twice c.args.localities.now c.loop-locality.locality-index c.locality-item.result c.loop-locality.places.keys c.loop-locality-test.true c.locality-item.is c.loop-locality.invariant.held again

pub loop-locality-preserved : goal.loop-locality-preserved
loop-locality-preserved c =
    let new = subst (λ (p : Place). is_held c.loop-locality.places.keys p ≡ false) c.in_ok-place.ensures (not-true _ (sym c.in_ok-is_new.ensures.added ∙ c.if-not-is_new.false)) in
    let updates =
    subst (λ (q : Place). (p : Place) → is_held c.insert.new.self.keys p ≡ (if is_place q p then true else is_held c.loop-locality.places.keys p))
    c.in_ok-place.ensures c.in_ok-is_new.ensures.updates.0 in
    record {
      held = one_more_taken c.args.localities.now c.loop-locality.locality-index c.locality-item.result c.loop-locality.places.keys c.insert.new.self.keys c.loop-locality-test.true c.locality-item.is c.loop-locality.invariant.held updates;
      apart = one_more_apart c.args.localities.now c.loop-locality.locality-index c.locality-item.result c.loop-locality.places.keys c.loop-locality-test.true c.locality-item.is c.loop-locality.invariant.held new c.loop-locality.invariant.apart;
    }

pub returns : goal.returns
returns c = all_once c.args.localities.now c.loop-locality.locality-index (omega arith) c.loop-locality.invariant.apart
