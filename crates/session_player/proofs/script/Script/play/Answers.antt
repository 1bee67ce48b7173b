use Rattle.session_player.proofs.RefusedLemmas.{refuses_none, refuses_then}
use Rattle.session_player.proofs.ScriptLemmas.{on_ok}
use Rattle.session_player.proofs.script.Script.play.Goals as goal

pub returns-clause-refused : goal.returns-clause-refused
returns-clause-refused g c =
    on_ok c.sweep.result _ _ c.sweep.ensures.refused
    (λ same. refuses_then c.args.stage.now.entries c.play_lines.new.stage.entries c.sweep.new.stage.entries (g.P.Patterns.refused c.args.patterns.now) (g.P.Patterns.refused c.play_lines.new.patterns)
    (g.P.Patterns.refused c.play_lines.new.patterns) c.in_ok-play_lines.ensures.refused (refuses_none c.play_lines.new.stage.entries c.sweep.new.stage.entries (g.P.Patterns.refused c.play_lines.new.patterns) same))
