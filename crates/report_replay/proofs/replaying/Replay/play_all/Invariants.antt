use Rattle.std.proofs.Common.{◌≡◌, List}
use Rattle.call_journal.specs.declared.entry.Entry.{Entry}
use Rattle.session_lines.specs.declared.session.Session.{Session}
use Rattle.alike_law.specs.AlikeTexts.{ListsAlike, Parting}
use Rattle.replay_law.specs.listed_events.ListedEvents.{TellsOn}
use Rattle.report_replay.specs.ReplayedTurns.{HasReplayed, IsLegalReplay, IsUnderWay}
use Rattle.report_replay.proofs.replaying.Replay.play_all.Given as goal

abbrev pub invariant-loop-turn : goal.invariant-loop-turn
invariant-loop-turn g l = record {
  plan : l.self.plan ≡ l.fn.self.plan;
  tells : TellsOn (g.P.Patterns.refused l.fn.patterns) (g.P.Patterns.refused l.patterns);
  under_way : IsUnderWay l.fn.book l.fn.self.seats → IsUnderWay l.book l.self.seats;
  replayed : (session : Session) (history : List Entry) (parting : Parting) → IsLegalReplay g.J.Job.plan g.J.Job.boot g.J.Job.target session history l.fn.self.plan → ListsAlike parting → HasReplayed session history parting 0 l.fn.book l.fn.self
      → g.P.Patterns.refused l.patterns ≡ g.P.Patterns.refused l.fn.patterns → HasReplayed session history parting l.turn l.book l.self;
}
