use Rattle.session_player.proofs.RefusedLemmas.{refuses_none}
use Rattle.session_player.proofs.ScriptLemmas.{on_ok, stands_in}
use Rattle.session_player.proofs.script.Script.play_line.Goals as goal

pub play_driver-requires-clause-stands : goal.play_driver-requires-clause-stands
play_driver-requires-clause-stands g c κs within =
    (c.args.place, stands_in c.args.self.now.session.now c.args.place c.at.result.now c.in-Driver.field-0 c.args.stage.now c.requires.of.formed c.at.ensures (cc c.in-Driver.is) c.requires.stands)

pub returns-in-Driver-clause-stands : goal.returns-in-Driver-clause-stands
returns-in-Driver-clause-stands g c =
    on_ok c.play_driver.result _ _ c.play_driver.ensures.stands
    (λ stands. stands c.args.place
    (stands_in c.args.self.now.session.now c.args.place c.at.result.now c.in-Driver.field-0 c.args.stage.now c.requires.of.formed c.at.ensures (cc c.in-Driver.is) c.requires.stands))

pub returns-in-Caller-clause-refused : goal.returns-in-Caller-clause-refused
returns-in-Caller-clause-refused g c =
    on_ok c.play_act.result _ _ c.play_act.ensures.refused (refuses_none c.args.stage.now.entries c.play_act.new.stage.entries (g.P.Patterns.refused c.args.patterns.now))
