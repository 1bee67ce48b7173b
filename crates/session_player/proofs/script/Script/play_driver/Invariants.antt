use Rattle.std.proofs.Common.{◌≤◌, ℕ}
use Rattle.book_progress.specs.ActorCounts.{count_of}
use Rattle.session_player.specs.Stages.{Refuses, StandsIn}
use Rattle.session_player.proofs.script.Script.play_driver.Given as goal

abbrev pub invariant-loop-turn : goal.invariant-loop-turn
invariant-loop-turn g l = record {
  stands : (place : ℕ) × StandsIn l.self.session.now place l.stage;
  same : (place : ℕ) → StandsIn l.self.session.now place l.fn.stage → StandsIn l.self.session.now place l.stage;
  counts : l.turn ≤ (count_of 0 l.stage.entries).ended;
  refused : Refuses l.fn.stage.entries l.stage.entries (g.P.Patterns.refused l.fn.patterns) (g.P.Patterns.refused l.patterns);
}
