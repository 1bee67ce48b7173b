use Rattle.std.proofs.Common.{refl, arith}
use Rattle.priority_lb.proofs.WalkLemmas.{chosen_is, place_below}
use Rattle.priority_lb.proofs.children.update_all.Goals as goal

pub overflow_cast-result : goal.overflow_cast-result
overflow_cast-result c =
    let chosen = chosen_is c.args.now c.args.children.now c.args.states.now c.walk-stop.new.children _ _ _ _ c.walk-stop.ensures.step c.walk-stop.ensures.stop c.first_connecting-connecting.ensures refl c.place_or_last-place.ensures in
    let below = place_below c.args.now c.args.children.now c.args.states.now c.place_or_last-place.result c.requires.same c.requires.some chosen in
    omega arith

pub returns-clause-chosen : goal.returns-clause-chosen
returns-clause-chosen c = chosen_is c.args.now c.args.children.now c.args.states.now c.walk-stop.new.children _ _ _ _ c.walk-stop.ensures.step c.walk-stop.ensures.stop c.first_connecting-connecting.ensures refl c.place_or_last-place.ensures

pub returns-clause-within : goal.returns-clause-within
returns-clause-within c =
    place_below c.args.now c.args.children.now c.args.states.now c.place_or_last-place.result c.requires.same c.requires.some
    (chosen_is c.args.now c.args.children.now c.args.states.now c.walk-stop.new.children _ _ _ _ c.walk-stop.ensures.step c.walk-stop.ensures.stop c.first_connecting-connecting.ensures refl c.place_or_last-place.ensures)
