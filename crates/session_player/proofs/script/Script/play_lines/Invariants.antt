use Rattle.session_player.specs.Stages.{Refuses, StandsAt}
use Rattle.session_player.proofs.script.Script.play_lines.Given as goal

abbrev pub invariant-loop-place : goal.invariant-loop-place
invariant-loop-place g l = record {
  stands : StandsAt l.self.session.now l.place l.stage;
  refused : Refuses l.fn.stage.entries l.stage.entries (g.P.Patterns.refused l.fn.patterns) (g.P.Patterns.refused l.patterns);
}
