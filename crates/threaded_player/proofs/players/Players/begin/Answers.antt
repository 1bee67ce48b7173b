use Rattle.std.proofs.Common.{arith, refl}
use Rattle.threaded_player.proofs.NextEvents.{lane_first, lanes_some}
use Rattle.threaded_player.proofs.players.Players.begin.Goals as goal

pub remove-driver-requires : goal.remove-driver-requires
remove-driver-requires g c =
    let some = lanes_some c.args.session.now.callers c.in_ok-channel.lanes c.into_vec-lanes.result.items c.in_ok-channel.ensures.lanes c.into_vec-lanes.ensures in
    let same = c.into_vec-lanes.result.ok in
    omega (arith, some, same)

pub returns : goal.returns
returns g c = record {
  plan = refl;
  driver = lane_first c.args.session.now.callers c.in_ok-channel.lanes c.into_vec-lanes.result.items c.remove-driver.result c.in_ok-channel.ensures.lanes c.into_vec-lanes.ensures c.remove-driver.ensures.value;
}
