use Rattle.std.proofs.Common.{refl}
use Rattle.session_player.proofs.RefusedLemmas.{refuses_none, refuses_then}
use Rattle.session_player.proofs.script.Script.play_lines.Goals as goal

pub loop-place-init : goal.loop-place-init
loop-place-init g c = record {
  stands = c.requires.stands;
  refused = refuses_none c.args.stage.now.entries c.args.stage.now.entries (g.P.Patterns.refused c.args.patterns.now) refl;
}

pub loop-place-preserved : goal.loop-place-preserved
loop-place-preserved g c = record {
  stands = c.in_ok-play_line.ensures.stands;
  refused = refuses_then c.args.stage.now.entries c.loop-place.stage.entries c.play_line.new.stage.entries (g.P.Patterns.refused c.args.patterns.now) (g.P.Patterns.refused c.loop-place.patterns)
      (g.P.Patterns.refused c.play_line.new.patterns) c.loop-place.invariant.refused c.in_ok-play_line.ensures.refused;
}
