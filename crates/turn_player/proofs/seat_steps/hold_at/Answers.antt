use Rattle.std.proofs.Common.{rules, ◌≡◌, ◌<◌, Some}
use Rattle.turn_steps.specs.xds_history.Setting.{setting_of}
use Rattle.turn_steps.specs.channel_calls.ChannelPlans.{HasUp}
use Rattle.turn_player.specs.TurnPlans.{SeatView, UpView}
use Rattle.turn_player.proofs.TurnLemmas.{hold_turn}
use Rattle.turn_player.proofs.seat_steps.hold_at.Goals as goal

pub returns-clause-made : goal.returns-clause-made
returns-clause-made g c =
    let seat : SeatView = record { lane = c.seat.inside.lane; up = c.seat.inside.up } in
    let up : UpView = record { token = c.in-Some.field-0.token; line = c.in-Some.field-0.at.line; after = c.in-Some.field-0.at.after } in
    let is : c.seat.inside.up ≡ Some up = search rules in
    let has : HasUp g.J.Job.plan c.seat.inside.lane up.line up.after up.token.call = search rules in
    let own : 0 < c.seat.inside.lane.actor = search rules in
    hold_turn c.hold.result (setting_of g.J.Job.boot g.J.Job.target) g.J.Job.plan c.args.book.now _ seat c.args.seat.now _ up c.seat.view_is is has own c.hold.ensures.makes
