use Rattle.std.proofs.Common.{inr}
use Rattle.xc_base.specs.Outside.{AppendsPrefix}
use Rattle.xds_replay.proofs.RunLemmas.{totals_in}
use Rattle.xds_replay.proofs.program.load.Goals as goal

pub returns-in-Ok-play_on_threads-clause-begun : goal.returns-in-Ok-play_on_threads-clause-begun
returns-in-Ok-play_on_threads-clause-begun g c = λ is.
    inr (totals_in c.args.rounds c.in-Ok.session c.in-Ok-play_on_threads.played.journal.entries (g.P.Patterns.refused c.args.patterns.now) (g.P.Patterns.refused c.play_on_threads.new.patterns)
    (AppendsPrefix (g.K.Sink.held c.args.sink.now) (g.K.Sink.held c.total-status.new.sink)) c.in-Ok.ensures.session (record { legal = c.in-Ok-play_on_threads.ensures.legal; refused = c.in-Ok-play_on_threads.ensures.refused }) (c.total-status.ensures.begun is))
