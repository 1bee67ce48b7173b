use Rattle.std.proofs.Common.{◌≡◌, map}
use Rattle.std.specs.List.{range_with_len}
use Rattle.xds_book.specs.BookEntries.{first_lane}
use Rattle.xds_book.proofs.lanes.new_lanes.Given as goal

abbrev pub invariant-loop-actor : goal.invariant-loop-actor
invariant-loop-actor g l = l.lanes ≡ map first_lane (range_with_len 0 l.actor)
