use Rattle.std.proofs.Common.{rules, ◌≡◌, ◌++◌, ◌∷◌, []}
use Rattle.turn_player.proofs.LaneLemmas.{lanes_on}
use Rattle.turn_player.proofs.turn_playing.Table.into_lanes.Goals as goal

pub loop-seat-preserved : goal.loop-seat-preserved
loop-seat-preserved g c =
    let grown : c.in-Some.seat.lane.count.pins ≡ 0 → c.put_lane.new.lanes.items ≡ c.loop-seat.lanes.items ++ c.in-Some.seat.lane ∷ [] = search rules in
    lanes_on c.loop-seat.yielded c.in-Some.seat c.loop-seat.lanes.items c.put_lane.new.lanes.items c.loop-seat.invariant grown
