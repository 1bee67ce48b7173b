use Rattle.std.proofs.Common.{rules, length, refl}
use Rattle.call_journal.specs.declared.event.CallerEvent.{CallerEvent}
use Rattle.call_journal.specs.declared.plan.ListedEvent.{ListedEvent}
use Rattle.book_progress.specs.EndedLines.{IsOpen}
use Rattle.book_progress.specs.PlayedPlans as played
use Rattle.channel_calls.specs.xds_history.Setting.{setting_of}
use Rattle.channel_calls.specs.xds_book.BookEntries.{IsLaneOf}
use Rattle.channel_calls.proofs.GatedSteps.{next_step}
use Rattle.channel_calls.proofs.LaneSteps.{pinned_lane}
use Rattle.turn_steps.proofs.TurnSteps.{call_is_new}
use Rattle.turn_steps.proofs.gated_steps.pin.Goals as goal

pub pin-requires-clause-free : goal.pin-requires-clause-free
pin-requires-clause-free g c =
    let own : IsLaneOf c.args.lane.now c.args.book.now = search (rules, c.if-not-may_go.ensures.own) in
    let open_now : IsOpen c.args.at.after c.args.book.now.entries = search (rules, c.if-not-may_go.ensures.open) in
    (call_is_new (setting_of g.J.Job.boot g.J.Job.target) g.J.Job.plan (length g.J.Job.boot.authorities) c.args.lane.now c.args.at.line c.args.call c.args.book.now c.requires.fits own
    c.actors-actors.ensures.counted c.actors-actors.ensures.played
    (next_step g.J.Job.plan c.args.lane.now 0 c.args.at.line c.args.at.after (ListedEvent.Start c.args.call) (played.caller (CallerEvent.Pin c.args.call)) c.args.book.now.entries c.requires.next (refl, refl) open_now)).free

pub pin-requires-clause-idle : goal.pin-requires-clause-idle
pin-requires-clause-idle g c =
    let own : IsLaneOf c.args.lane.now c.args.book.now = search (rules, c.if-not-may_go.ensures.own) in
    let open_now : IsOpen c.args.at.after c.args.book.now.entries = search (rules, c.if-not-may_go.ensures.open) in
    (call_is_new (setting_of g.J.Job.boot g.J.Job.target) g.J.Job.plan (length g.J.Job.boot.authorities) c.args.lane.now c.args.at.line c.args.call c.args.book.now c.requires.fits own
    c.actors-actors.ensures.counted c.actors-actors.ensures.played
    (next_step g.J.Job.plan c.args.lane.now 0 c.args.at.line c.args.at.after (ListedEvent.Start c.args.call) (played.caller (CallerEvent.Pin c.args.call)) c.args.book.now.entries c.requires.next (refl, refl) open_now)).idle

pub returns-in-Ok-clause-token : goal.returns-in-Ok-clause-token
returns-in-Ok-clause-token g c =
    pinned_lane c.args.lane.now c.pin.new.lane (setting_of g.J.Job.boot g.J.Job.target) c.args.book.now c.pin.new.self c.args.call c.in-Ok.token c.in-Ok.ensures.entry.lane c.in-Ok.ensures.token
