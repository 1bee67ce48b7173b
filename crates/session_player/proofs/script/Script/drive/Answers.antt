use Rattle.std.proofs.Common.{◌≡◌, refl, sym, ap}
use Rattle.session_player.proofs.ScriptLemmas.{driven_within, event_known, event_next, event_playable, has_driven, next_event, no_event}
use Rattle.session_player.proofs.script.Script.drive.Goals as goal

pub at-listed-requires : goal.at-listed-requires
at-listed-requires g c =
    driven_within c.args.self.now.session.now c.requires.stands.0 c.args.stage.now c.args.self.now.plan.now.actors c.at.result.now c.driven.result c.requires.of.lists_are c.requires.stands.1 c.at.ensures c.driven.ensures

pub returns-in_default : goal.returns-in_default
returns-in_default g c =
    absurd (no_event c.args.self.now.session.now c.requires.stands.0 c.args.stage.now c.args.self.now.plan.now.actors c.at.result.now c.driven.result c.at-listed.result.now c.requires.of.lists_are c.requires.stands.1
    c.at.ensures c.driven.ensures c.at-listed.ensures c.in_default.ensures)

pub prepared_for-requires : goal.prepared_for-requires
prepared_for-requires g c =
    let next = next_event c.args.self.now.session.now c.requires.stands.0 c.args.stage.now c.args.self.now.plan.now.actors c.at.result.now c.driven.result c.at-listed.result.now _ c.requires.of.lists_are c.requires.stands.1
    c.at.ensures c.driven.ensures c.at-listed.ensures c.in-Some.ensures in
    (c.args.self.now.session.now.boot, event_playable c.args.self.now.session.now c.requires.stands.0 c.args.stage.now.entries c.requires.stands.1.driving c.in-Some.event.now next.event_is)

pub drive-requires-clause-known : goal.drive-requires-clause-known
drive-requires-clause-known g c = λ _ _.
    let next = next_event c.args.self.now.session.now c.requires.stands.0 c.args.stage.now c.args.self.now.plan.now.actors c.at.result.now c.driven.result c.at-listed.result.now _ c.requires.of.lists_are c.requires.stands.1
    c.at.ensures c.driven.ensures c.at-listed.ensures c.in-Some.ensures in
    event_known c.args.self.now.session.now.boot g.J.Job.boot c.in-Some.event.now c.in_ok-shared_event.field-0 c.requires.of.boot_is c.in_ok-shared_event.ensures
    (event_playable c.args.self.now.session.now c.requires.stands.0 c.args.stage.now.entries c.requires.stands.1.driving c.in-Some.event.now next.event_is)

pub drive-requires-clause-next : goal.drive-requires-clause-next
drive-requires-clause-next g c = λ _ _.
    let next = next_event c.args.self.now.session.now c.requires.stands.0 c.args.stage.now c.args.self.now.plan.now.actors c.at.result.now c.driven.result c.at-listed.result.now _ c.requires.of.lists_are c.requires.stands.1
    c.at.ensures c.driven.ensures c.at-listed.ensures c.in-Some.ensures in
    rw c.in_ok-shared_event.ensures
    (event_next g.J.Job.plan g.J.Job.boot g.J.Job.target c.args.self.now.session.now c.args.self.now.plan.now.actors c.requires.stands.0 c.args.stage.now.entries c.requires.stands.1.driving c.at-listed.result.now c.in-Some.event.now
    c.requires.of next)

pub returns-clause-stands : goal.returns-clause-stands
returns-clause-stands g c = λ place stands.
    let next = next_event c.args.self.now.session.now place c.args.stage.now c.args.self.now.plan.now.actors c.at.result.now c.driven.result c.at-listed.result.now _ c.requires.of.lists_are stands
    c.at.ensures c.driven.ensures c.at-listed.ensures c.in-Some.ensures in
    has_driven c.args.self.now.session.now place c.args.stage.now c.drive.new.self c.at-listed.result.now c.in-Some.event.now c.in_ok-prepared.prepared c.ends-ended.result c.requires.of.formed stands next
    (rw c.in_ok-shared_event.ensures at c.in_ok-drive.ensures) c.ends-ended.ensures
