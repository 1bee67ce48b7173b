use Rattle.std.proofs.Common.{rules, ◌≡◌, None, subst, sym}
use Rattle.turn_player.specs.TurnPlans.{SeatView}
use Rattle.turn_player.specs.TablePlaces.{IsSweepListed}
use Rattle.turn_player.proofs.PlaceLemmas.{free_at}
use Rattle.turn_player.proofs.turn_places.place_at.Goals as goal

pub returns-clause-place : goal.returns-clause-place
returns-clause-place g c =
    let seat : SeatView = record { lane = c.seat.inside.lane; up = c.seat.inside.up } in
    let free : c.seat.inside.up ≡ None = search rules in
    free_at g.J.Job.plan c.args.plan.now.actors c.args.turn.line c.args.book.now seat c.args.seat.now c.place_free.result c.seat.view_is free c.place_free.ensures.place

pub returns-clause-sweep : goal.returns-clause-sweep
returns-clause-sweep g c = λ zero has.
    c.place_free.ensures.sweep zero (subst (λ (s : SeatView). IsSweepListed c.args.plan.now.actors s.lane) (sym c.seat.view_is) has)
