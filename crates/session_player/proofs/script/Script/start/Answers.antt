use Rattle.std.proofs.Common.{◌≡◌, refl, sym}
use Rattle.call_journal.specs.declared.event.CallerEvent.{CallerEvent}
use Rattle.session_lines.specs.declared.session.Act.TheVariants as does
use Rattle.legal_plan.specs.xds_history.Setting.{setting_of}
use Rattle.session_player.proofs.ScriptLemmas.{act_next, caller_known, calling_at, hold_is_next, hold_known, hold_room, on_ok, start_ends, start_free, start_holds, start_idle, start_up}
use Rattle.session_player.proofs.script.Script.start.Goals as goal

pub pin-requires-clause-caller : goal.pin-requires-clause-caller
pin-requires-clause-caller g c =
    let calling = calling_at c.args.self.now.session.now c.args.place c.requires.calls.0 c.at.result.now c.args.caller (does.Start c.args.call.now) (does.Start c.args.call.now) c.requires.calls.1 c.at.ensures refl in
    (caller_known c.args.self.now.session.now c.args.place c.at.result.now c.args.caller (does.Start c.args.call.now) c.args.stage.now c.requires.of.formed calling c.requires.stands.goes).0

pub pin-requires-clause-known : goal.pin-requires-clause-known
pin-requires-clause-known g c =
    let calling = calling_at c.args.self.now.session.now c.args.place c.requires.calls.0 c.at.result.now c.args.caller (does.Start c.args.call.now) (does.Start c.args.call.now) c.requires.calls.1 c.at.ensures refl in
    (caller_known c.args.self.now.session.now c.args.place c.at.result.now c.args.caller (does.Start c.args.call.now) c.args.stage.now c.requires.of.formed calling c.requires.stands.goes).1

pub pin-requires-clause-next : goal.pin-requires-clause-next
pin-requires-clause-next g c =
    let calling = calling_at c.args.self.now.session.now c.args.place c.requires.calls.0 c.at.result.now c.args.caller (does.Start c.args.call.now) (does.Start c.args.call.now) c.requires.calls.1 c.at.ensures refl in
    rw c.in_ok-share.ensures
    (act_next g.J.Job.plan g.J.Job.boot g.J.Job.target c.args.self.now.session.now c.args.self.now.plan.now.actors c.args.place c.at.result.now c.args.caller (does.Start c.args.call.now) (CallerEvent.Pin c.args.call.now)
    c.args.stage.now c.requires.of calling c.requires.stands (refl, refl))

pub pin-requires-clause-free : goal.pin-requires-clause-free
pin-requires-clause-free g c =
    let calling = calling_at c.args.self.now.session.now c.args.place c.requires.calls.0 c.at.result.now c.args.caller (does.Start c.args.call.now) (does.Start c.args.call.now) c.requires.calls.1 c.at.ensures refl in
    start_free (setting_of g.J.Job.boot g.J.Job.target) c.args.self.now.session.now c.args.place c.at.result.now c.args.caller c.args.call.now c.in_ok-share.field-0 c.args.stage.now c.requires.of.formed calling c.requires.stands c.in_ok-share.ensures

pub pin-requires-clause-idle : goal.pin-requires-clause-idle
pin-requires-clause-idle g c =
    let calling = calling_at c.args.self.now.session.now c.args.place c.requires.calls.0 c.at.result.now c.args.caller (does.Start c.args.call.now) (does.Start c.args.call.now) c.requires.calls.1 c.at.ensures refl in
    start_idle (setting_of g.J.Job.boot g.J.Job.target) c.args.self.now.session.now c.args.place c.at.result.now c.args.caller c.args.call.now c.in_ok-share.field-0 c.args.stage.now c.requires.of.formed calling c.requires.stands c.in_ok-share.ensures

pub hold-requires-clause-caller : goal.hold-requires-clause-caller
hold-requires-clause-caller g c =
    let calling = calling_at c.args.self.now.session.now c.args.place c.requires.calls.0 c.at.result.now c.args.caller (does.Start c.args.call.now) (does.Start c.args.call.now) c.requires.calls.1 c.at.ensures refl in
    (hold_known c.args.self.now.session.now c.args.place c.at.result.now c.args.caller (does.Start c.args.call.now) c.args.stage.now c.pin.new.self _ _ c.requires.of.formed calling c.requires.stands.goes c.in_ok-token.ensures.adds).0

pub hold-requires-clause-known : goal.hold-requires-clause-known
hold-requires-clause-known g c =
    let calling = calling_at c.args.self.now.session.now c.args.place c.requires.calls.0 c.at.result.now c.args.caller (does.Start c.args.call.now) (does.Start c.args.call.now) c.requires.calls.1 c.at.ensures refl in
    (hold_known c.args.self.now.session.now c.args.place c.at.result.now c.args.caller (does.Start c.args.call.now) c.args.stage.now c.pin.new.self _ _ c.requires.of.formed calling c.requires.stands.goes c.in_ok-token.ensures.adds).1

pub hold-requires-clause-room : goal.hold-requires-clause-room
hold-requires-clause-room g c =
    let calling = calling_at c.args.self.now.session.now c.args.place c.requires.calls.0 c.at.result.now c.args.caller (does.Start c.args.call.now) (does.Start c.args.call.now) c.requires.calls.1 c.at.ensures refl in
    hold_room c.args.self.now.session.now c.args.place c.at.result.now c.args.caller c.args.call.now c.args.stage.now c.pin.new.self _ _ calling c.requires.stands c.in_ok-token.ensures.adds

pub hold-requires-clause-next : goal.hold-requires-clause-next
hold-requires-clause-next g c =
    let calling = calling_at c.args.self.now.session.now c.args.place c.requires.calls.0 c.at.result.now c.args.caller (does.Start c.args.call.now) (does.Start c.args.call.now) c.requires.calls.1 c.at.ensures refl in
    let up = start_up (setting_of g.J.Job.boot g.J.Job.target) c.args.self.now.session.now c.args.place c.at.result.now c.args.caller c.args.call.now c.in_ok-share.field-0 c.args.stage.now c.pin.new.self c.in_ok-token.field-0 c.in-Some.token
    c.in_ok-share.ensures c.in-Some.is c.in_ok-token.ensures.token c.in_ok-token.ensures.adds in
    hold_is_next g.J.Job.plan g.J.Job.boot g.J.Job.target c.args.self.now.session.now c.args.self.now.plan.now.actors c.args.place c.at.result.now c.args.caller c.args.call.now c.in-Some.token.call c.args.stage.now c.pin.new.self
    c.requires.of calling c.requires.stands up.0 up.1

pub returns-in-Some-clause-stands : goal.returns-in-Some-clause-stands
returns-in-Some-clause-stands g c =
    let calling = calling_at c.args.self.now.session.now c.args.place c.requires.calls.0 c.at.result.now c.args.caller (does.Start c.args.call.now) (does.Start c.args.call.now) c.requires.calls.1 c.at.ensures refl in
    let up = start_up (setting_of g.J.Job.boot g.J.Job.target) c.args.self.now.session.now c.args.place c.at.result.now c.args.caller c.args.call.now c.in_ok-share.field-0 c.args.stage.now c.pin.new.self c.in_ok-token.field-0 c.in-Some.token
    c.in_ok-share.ensures c.in-Some.is c.in_ok-token.ensures.token c.in_ok-token.ensures.adds in
    on_ok c.hold.result _ _ c.hold.ensures
    (start_holds (setting_of g.J.Job.boot g.J.Job.target) c.args.self.now.session.now c.args.place c.at.result.now c.args.caller c.args.call.now c.in-Some.token.call c.args.stage.now c.pin.new.self c.hold.new.self
    c.requires.of.formed calling c.requires.stands up.0 up.1)

pub returns-in-None-clause-stands : goal.returns-in-None-clause-stands
returns-in-None-clause-stands g c =
    let calling = calling_at c.args.self.now.session.now c.args.place c.requires.calls.0 c.at.result.now c.args.caller (does.Start c.args.call.now) (does.Start c.args.call.now) c.requires.calls.1 c.at.ensures refl in
    start_ends (setting_of g.J.Job.boot g.J.Job.target) c.args.self.now.session.now c.args.place c.at.result.now c.args.caller c.args.call.now c.in_ok-share.field-0 c.args.stage.now c.pin.new.self c.in_ok-token.field-0
    c.requires.of.formed calling c.requires.stands c.in_ok-share.ensures c.in-None.is c.in_ok-token.ensures.token c.in_ok-token.ensures.adds
