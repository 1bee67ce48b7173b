use Rattle.std.proofs.Common.{◌≡◌, All, None, drop}
use Rattle.turn_player.specs.TableSeats.{AreDone, HasNoLineLeft}
use Rattle.turn_player.proofs.turn_playing.Table.left_line.Given as goal

abbrev pub invariant-loop-seat : goal.invariant-loop-seat
invariant-loop-seat g l =
    (AreDone l.fn.plan.actors l.fn.self → l.first ≡ None)
    × (l.first ≡ None → All (HasNoLineLeft l.fn.plan.actors) (drop l.seat-index l.fn.self) → All (HasNoLineLeft l.fn.plan.actors) l.fn.self)
