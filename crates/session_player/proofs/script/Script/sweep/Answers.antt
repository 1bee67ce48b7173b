use Rattle.session_player.proofs.ScriptLemmas.{on_ok, sweep_ends, sweep_is_next, sweep_refuses}
use Rattle.session_player.proofs.script.Script.sweep.Goals as goal

pub drive-requires-clause-next : goal.drive-requires-clause-next
drive-requires-clause-next g c = λ _ _.
    sweep_is_next g.J.Job.plan g.J.Job.boot g.J.Job.target c.args.self.now.session.now c.args.self.now.plan.now.actors c.args.stage.now c.requires.of c.requires.stands

pub returns-clause-stands : goal.returns-clause-stands
returns-clause-stands g c =
    on_ok c.drive.result _ _ c.drive.ensures (sweep_ends c.args.self.now.session.now c.args.stage.now c.drive.new.self c.requires.of.formed c.requires.stands)

pub returns-clause-refused : goal.returns-clause-refused
returns-clause-refused g c = on_ok c.drive.result _ _ c.drive.ensures (sweep_refuses c.args.stage.now c.drive.new.self)
