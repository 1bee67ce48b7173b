use Rattle.std.proofs.Common.{◌≡◌, All, map}
use Rattle.turn_player.proofs.turn_playing.Table.into_lanes.Given as goal

abbrev pub invariant-loop-seat : goal.invariant-loop-seat
invariant-loop-seat g l = All (λ seat. seat.lane.count.pins ≡ 0) l.yielded → l.lanes.items ≡ map (λ seat. seat.lane) l.yielded
