use Rattle.threaded_player.proofs.DriverTexts.{refuses_if}
use Rattle.threaded_player.proofs.threaded_playing.play_on_threads.Goals as goal

pub returns-in-Err-Strange-clause-refused : goal.returns-in-Err-Strange-clause-refused
returns-in-Err-Strange-clause-refused g c =
    refuses_if (λ played. played.journal.entries) c.play.result (g.P.Patterns.refused c.args.patterns.now) (g.P.Patterns.refused c.play_planned.new.patterns) (g.P.Patterns.refused c.play.new.patterns)
    c.play_planned.ensures.grown c.play.ensures.refused
