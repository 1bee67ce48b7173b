use Rattle.std.proofs.Common.{All, drop}
use Rattle.xds_book.specs.BookEntries.{IsLaneOf}
use Rattle.lane_checks.proofs.ended_lanes.are_of.Given as goal

abbrev pub invariant-loop-lane : goal.invariant-loop-lane
invariant-loop-lane g l = All (λ lane. IsLaneOf lane l.book) (drop l.lane-index l.lanes) → All (λ lane. IsLaneOf lane l.book) l.lanes
