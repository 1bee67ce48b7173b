use Rattle.std.proofs.Common.{rules, ◌≡◌, None, refl}
use Rattle.turn_player.specs.TurnPlans.{SeatView}
use Rattle.turn_player.proofs.PlaceLemmas.{nothing_left}
use Rattle.turn_player.proofs.turn_places.left_at.Goals as goal

pub returns-in_err-line-in-None-clause-left : goal.returns-in_err-line-in-None-clause-left
returns-in_err-line-in-None-clause-left g c = λ none.
    let seat : SeatView = record { lane = c.seat.inside.lane; up = c.seat.inside.up } in
    let free : c.seat.inside.up ≡ None = search rules in
    nothing_left c.args.plan.now.actors seat c.args.seat.now None c.seat.view_is free c.in_err-line-in-None.ensures.some refl
