use Rattle.std.proofs.Common.{◌<◌, length, IfSome, arith, Option, ℕ, subst, sym}
use Rattle.tree_steps.proofs.PlaceLemmas.{place_below}
use Rattle.tree_steps.proofs.ChildLemmas.{place_more, one_more}
use Rattle.tree_steps.proofs.leaf_children.places_in.Goals as goal

pub short_place-requires : goal.short_place-requires
short_place-requires c = place_below _ c.args.before.now c.place_in.result _ c.place_in.ensures (omega (arith, c.requires))

pub loop-child-preserved : goal.loop-child-preserved
loop-child-preserved c = record {
  items = place_more c.args.children.now c.args.before.now c.loop-child.child-index c.child-item.result _ _ c.place_in.result c.short_place.result c.loop-child-test.true c.child-item.is
      c.loop-child.invariant.items c.in_ok-push.ensures.items c.short_place.ensures c.place_in.ensures;
  below = one_more (λ (place : Option ℕ). IfSome place (λ p. p < length c.args.before.now)) _ _ c.short_place.result c.loop-child.invariant.below
      (subst (λ (place : Option ℕ). IfSome place (λ p. p < length c.args.before.now)) (sym c.short_place.ensures) (place_below _ c.args.before.now c.place_in.result _ c.place_in.ensures (omega arith)))
      c.in_ok-push.ensures.items;
}
