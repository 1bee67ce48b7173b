use Rattle.std.proofs.Common.{ap}
use Rattle.threaded_player.proofs.NextEvents.{lane_first}
use Rattle.xds_book.specs.BookViews.{LaneView}
use Rattle.thread_tests.proofs.stranger_tests.knows_stranger.Goals as goal

pub drive_next-requires-clause-driver : goal.drive_next-requires-clause-driver
drive_next-requires-clause-driver g c = λ _ _.
    ap (λ (l : LaneView). l.actor)
    (lane_first c.args.setup.session.now.callers c.in_ok-other.lanes c.into_vec-lanes.result.items c.remove-lane.result c.in_ok-other.ensures.lanes c.into_vec-lanes.ensures c.remove-lane.ensures.value)
