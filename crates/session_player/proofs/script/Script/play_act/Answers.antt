use Rattle.std.proofs.Common.{◌≡◌, refl, sym}
use Rattle.call_journal.specs.declared.event.CallerEvent.{CallerEvent}
use Rattle.session_lines.specs.declared.session.Act.TheVariants as does
use Rattle.legal_plan.specs.xds_history.Setting.{setting_of}
use Rattle.xds_book.specs.BookEntries.{answered_call}
use Rattle.session_player.proofs.ScriptLemmas.{act_ends, act_next, caller_known, calling_at, on_ok}
use Rattle.session_player.proofs.script.Script.play_act.Goals as goal

pub pick-requires-clause-caller : goal.pick-requires-clause-caller
pick-requires-clause-caller g c =
    let calling = calling_at c.args.self.now.session.now c.args.place c.requires.calls.0 c.at.result.now c.args.caller c.args.act.now (does.Pick c.in-Pick.call c.in-Pick.word) c.requires.calls.1 c.at.ensures (cc c.in-Pick.is) in
    (caller_known c.args.self.now.session.now c.args.place c.at.result.now c.args.caller (does.Pick c.in-Pick.call c.in-Pick.word) c.args.stage.now c.requires.of.formed calling c.requires.stands.goes).0

pub pick-requires-clause-known : goal.pick-requires-clause-known
pick-requires-clause-known g c =
    let calling = calling_at c.args.self.now.session.now c.args.place c.requires.calls.0 c.at.result.now c.args.caller c.args.act.now (does.Pick c.in-Pick.call c.in-Pick.word) c.requires.calls.1 c.at.ensures (cc c.in-Pick.is) in
    (caller_known c.args.self.now.session.now c.args.place c.at.result.now c.args.caller (does.Pick c.in-Pick.call c.in-Pick.word) c.args.stage.now c.requires.of.formed calling c.requires.stands.goes).1

pub pick-requires-clause-next : goal.pick-requires-clause-next
pick-requires-clause-next g c =
    let calling = calling_at c.args.self.now.session.now c.args.place c.requires.calls.0 c.at.result.now c.args.caller c.args.act.now (does.Pick c.in-Pick.call c.in-Pick.word) c.requires.calls.1 c.at.ensures (cc c.in-Pick.is) in
    act_next g.J.Job.plan g.J.Job.boot g.J.Job.target c.args.self.now.session.now c.args.self.now.plan.now.actors c.args.place c.at.result.now c.args.caller (does.Pick c.in-Pick.call c.in-Pick.word) (CallerEvent.Pick c.in-Pick.call c.in-Pick.word)
    c.args.stage.now c.requires.of calling c.requires.stands (refl, refl)

pub returns-in-Pick-clause-stands : goal.returns-in-Pick-clause-stands
returns-in-Pick-clause-stands g c =
    let calling = calling_at c.args.self.now.session.now c.args.place c.requires.calls.0 c.at.result.now c.args.caller c.args.act.now (does.Pick c.in-Pick.call c.in-Pick.word) c.requires.calls.1 c.at.ensures (cc c.in-Pick.is) in
    on_ok c.pick.result _ _ c.pick.ensures
    (act_ends c.args.self.now.session.now c.args.place c.at.result.now c.args.caller (does.Pick c.in-Pick.call c.in-Pick.word) (answered_call (setting_of g.J.Job.boot g.J.Job.target) c.args.stage.now.entries (CallerEvent.Pick c.in-Pick.call c.in-Pick.word))
    c.args.stage.now c.pick.new.self c.requires.of.formed calling c.requires.stands (λ n. refl) (record { planned = refl; lawful = refl }) (λ id new. refl))

pub commit-requires-clause-caller : goal.commit-requires-clause-caller
commit-requires-clause-caller g c =
    let calling = calling_at c.args.self.now.session.now c.args.place c.requires.calls.0 c.at.result.now c.args.caller c.args.act.now (does.Commit c.in-Commit.call) c.requires.calls.1 c.at.ensures (cc c.in-Commit.is) in
    (caller_known c.args.self.now.session.now c.args.place c.at.result.now c.args.caller (does.Commit c.in-Commit.call) c.args.stage.now c.requires.of.formed calling c.requires.stands.goes).0

pub commit-requires-clause-known : goal.commit-requires-clause-known
commit-requires-clause-known g c =
    let calling = calling_at c.args.self.now.session.now c.args.place c.requires.calls.0 c.at.result.now c.args.caller c.args.act.now (does.Commit c.in-Commit.call) c.requires.calls.1 c.at.ensures (cc c.in-Commit.is) in
    (caller_known c.args.self.now.session.now c.args.place c.at.result.now c.args.caller (does.Commit c.in-Commit.call) c.args.stage.now c.requires.of.formed calling c.requires.stands.goes).1

pub commit-requires-clause-next : goal.commit-requires-clause-next
commit-requires-clause-next g c =
    let calling = calling_at c.args.self.now.session.now c.args.place c.requires.calls.0 c.at.result.now c.args.caller c.args.act.now (does.Commit c.in-Commit.call) c.requires.calls.1 c.at.ensures (cc c.in-Commit.is) in
    act_next g.J.Job.plan g.J.Job.boot g.J.Job.target c.args.self.now.session.now c.args.self.now.plan.now.actors c.args.place c.at.result.now c.args.caller (does.Commit c.in-Commit.call) (CallerEvent.Commit c.in-Commit.call)
    c.args.stage.now c.requires.of calling c.requires.stands (refl, refl)

pub returns-in-Commit-clause-stands : goal.returns-in-Commit-clause-stands
returns-in-Commit-clause-stands g c =
    let calling = calling_at c.args.self.now.session.now c.args.place c.requires.calls.0 c.at.result.now c.args.caller c.args.act.now (does.Commit c.in-Commit.call) c.requires.calls.1 c.at.ensures (cc c.in-Commit.is) in
    on_ok c.commit.result _ _ c.commit.ensures
    (act_ends c.args.self.now.session.now c.args.place c.at.result.now c.args.caller (does.Commit c.in-Commit.call) (answered_call (setting_of g.J.Job.boot g.J.Job.target) c.args.stage.now.entries (CallerEvent.Commit c.in-Commit.call))
    c.args.stage.now c.commit.new.self c.requires.of.formed calling c.requires.stands (λ n. refl) (record { planned = refl; lawful = refl }) (λ id new. refl))
