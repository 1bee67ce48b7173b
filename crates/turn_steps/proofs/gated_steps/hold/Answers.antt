use Rattle.std.proofs.Common.{rules, length, refl}
use Rattle.call_journal.specs.declared.event.CallerEvent.{CallerEvent}
use Rattle.call_journal.specs.declared.plan.ListedEvent.{ListedEvent}
use Rattle.book_progress.specs.EndedLines.{IsOpen}
use Rattle.book_progress.specs.PlayedPlans as played
use Rattle.channel_calls.specs.xds_history.Setting.{setting_of}
use Rattle.channel_calls.specs.xds_book.BookEntries.{IsLaneOf}
use Rattle.channel_calls.proofs.GatedSteps.{next_step}
use Rattle.turn_steps.proofs.TurnSteps.{call_is_up}
use Rattle.turn_steps.proofs.gated_steps.hold.Goals as goal

pub hold-requires-clause-up : goal.hold-requires-clause-up
hold-requires-clause-up g c =
    let own : IsLaneOf c.args.lane.now c.args.book.now = search (rules, c.if-not-may_go.ensures.own) in
    let open_now : IsOpen c.args.at.after c.args.book.now.entries = search (rules, c.if-not-may_go.ensures.open) in
    call_is_up (setting_of g.J.Job.boot g.J.Job.target) g.J.Job.plan (length g.J.Job.boot.authorities) c.args.lane.now c.args.at.line c.args.token.call c.args.book.now c.requires.fits own
    c.actors-actors.ensures.counted c.actors-actors.ensures.played
    (next_step g.J.Job.plan c.args.lane.now 1 c.args.at.line c.args.at.after (ListedEvent.Start c.args.token.call) (played.caller (CallerEvent.Hold c.args.token.call)) c.args.book.now.entries c.requires.up (refl, refl) open_now)
