use Rattle.std.proofs.Common.{rules, ◌≡◌, ◌≤◌, List, length, subst, Some}
use Rattle.std.specs.Prelude.{slice_get}
use Rattle.session_player.specs.xds_book.BookKept.{HasActors}
use Rattle.turn_player.specs.TurnPlans.{SeatView}
use Rattle.turn_player.proofs.PlaceLemmas.{no_seat, sweep_at, sweep_no_seat, turn_place}
use Rattle.turn_player.proofs.turn_playing.Table.place_of.Goals as goal

pub returns-in-Some-clause-place : goal.returns-in-Some-clause-place
returns-in-Some-clause-place g c =
    let same : c.as_slice.result.now ≡ c.args.self.now = search (rules, c.as_slice.ensures.value, c.self.view_is) in
    let at : slice_get c.args.self.now c.args.turn.actor ≡ Some c.in-Some.seat.now =
    subst (λ (seats : List SeatView). slice_get seats c.args.turn.actor ≡ Some c.in-Some.seat.now) same c.in-Some.ensures.member in
    turn_place g.J.Job.plan c.args.plan.now.actors c.args.turn.actor c.args.turn.line c.args.book.now c.args.self.now c.in-Some.seat.now c.place_at.result at c.place_at.ensures.place

pub returns-in-Some-clause-sweep : goal.returns-in-Some-clause-sweep
returns-in-Some-clause-sweep g c = λ seated done next.
    let same : c.as_slice.result.now ≡ c.args.self.now = search (rules, c.as_slice.ensures.value, c.self.view_is) in
    let at : slice_get c.args.self.now c.args.turn.actor ≡ Some c.in-Some.seat.now =
    subst (λ (seats : List SeatView). slice_get seats c.args.turn.actor ≡ Some c.in-Some.seat.now) same c.in-Some.ensures.member in
    c.place_at.ensures.sweep next.line_is (sweep_at c.args.plan.now.actors c.args.turn.actor c.args.turn.line c.args.book.now c.args.self.now c.in-Some.seat.now seated done at next)

pub returns-in-None-clause-place : goal.returns-in-None-clause-place
returns-in-None-clause-place g c =
    let same : c.as_slice.result.now ≡ c.args.self.now = search (rules, c.as_slice.ensures.value, c.self.view_is) in
    let few : length c.args.self.now ≤ c.args.turn.actor = subst (λ (seats : List SeatView). length seats ≤ c.args.turn.actor) same c.in-None.ensures.none in
    let plan : HasActors g.J.Job.plan (length c.args.book.now.counts) = search (rules, c.actors-actors.ensures.plan, c.actors-actors.ensures.counts) in
    no_seat c.args.plan.now.actors g.J.Job.plan c.args.turn.actor c.args.turn.line c.args.book.now c.args.self.now c.requires.plan.planned plan few

pub returns-in-None-clause-sweep : goal.returns-in-None-clause-sweep
returns-in-None-clause-sweep g c = λ seated done next.
    let same : c.as_slice.result.now ≡ c.args.self.now = search (rules, c.as_slice.ensures.value, c.self.view_is) in
    let few : length c.args.self.now ≤ c.args.turn.actor = subst (λ (seats : List SeatView). length seats ≤ c.args.turn.actor) same c.in-None.ensures.none in
    let plan : HasActors g.J.Job.plan (length c.args.book.now.counts) = search (rules, c.actors-actors.ensures.plan, c.actors-actors.ensures.counts) in
    sweep_no_seat c.args.plan.now.actors g.J.Job.plan c.args.turn.actor c.args.turn.line c.args.book.now c.args.self.now c.requires.plan.planned plan few seated next
