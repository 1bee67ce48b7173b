use Rattle.std.proofs.Common.{rules, ◌≡◌, ◌<◌, ◌≤◌, List, length, None, Some, refl, subst}
use Rattle.std.specs.Prelude.{slice_get}
use Rattle.turn_player.specs.TurnPlans.{SeatView}
use Rattle.turn_player.specs.TableSeats.{AreDone}
use Rattle.turn_player.proofs.PlaceLemmas.{all_behind, left_on, seat_at}
use Rattle.turn_player.proofs.turn_playing.Table.left_line.Goals as goal

pub loop-seat-preserved : goal.loop-seat-preserved
loop-seat-preserved g c =
    let done : AreDone c.args.plan.now.actors c.args.self.now → c.first_line-first.result ≡ None = search rules in
    let same : c.deref-seat-items.result.now ≡ c.args.self.now = search (rules, c.deref-seat-items.ensures.value, c.self.view_is) in
    let within : c.loop-seat.seat-index < length c.deref-seat-items.result.now = search rules in
    let at : slice_get c.args.self.now c.loop-seat.seat-index ≡ Some c.seat-item.result =
    seat_at c.deref-seat-items.result.now c.args.self.now c.loop-seat.seat-index c.loop-seat.seat-index c.seat-item.result same refl within c.seat-item.is in (
      done,
      λ none rest.
          let first : c.loop-seat.first ≡ None = search (rules, none, c.first_line-first.ensures) in
          let other : c.left_at.result ≡ None = search (rules, none, c.first_line-first.ensures) in
          left_on c.args.plan.now.actors c.args.self.now c.loop-seat.seat-index c.seat-item.result at (c.left_at.ensures.left other) (c.loop-seat.invariant.1 first) rest,
    )

pub returns-clause-left : goal.returns-clause-left
returns-clause-left g c = λ none.
    let same : c.deref-seat-items.result.now ≡ c.args.self.now = search (rules, c.deref-seat-items.ensures.value, c.self.view_is) in
    let ended : length c.deref-seat-items.result.now ≤ c.loop-seat.seat-index = search rules in
    c.loop-seat.invariant.1 none
    (all_behind c.args.plan.now.actors c.args.self.now c.loop-seat.seat-index (subst (λ (seats : List SeatView). length seats ≤ c.loop-seat.seat-index) same ended))
