use Rattle.std.proofs.Common.{◌≡◌, map}
use Rattle.turn_player.specs.TableSeats.{free_seat}
use Rattle.turn_player.proofs.turn_playing.seats_for.Given as goal

abbrev pub invariant-loop-lane : goal.invariant-loop-lane
invariant-loop-lane g l = l.seats.items ≡ map free_seat l.yielded
