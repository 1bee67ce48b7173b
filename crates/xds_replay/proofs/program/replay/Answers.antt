use Rattle.std.proofs.Common.{sym, ◌∙◌}
use Rattle.std.specs.Io.KnownBytes.{Appends}
use Rattle.xds_replay.proofs.RunLemmas.{begun_of, complete_of, never_refused, nothing_begun, refusal_of, refused_of, reports_of}
use Rattle.xds_replay.proofs.program.replay.Goals as goal

pub returns-in-Err-session_in-clause-session : goal.returns-in-Err-session_in-clause-session
returns-in-Err-session_in-clause-session g c = λ line cause same.
    refused_of (g.S.Source.left c.args.source.now) c.deref.result.now c.in-Err-session_in.fault (rw c.deref.ensures.value c.in-Ok.ensures.bytes) c.in-Err-session_in.ensures.gives line cause (sym c.status_of.ensures ∙ same)

pub returns-in-Err-session_in-clause-refused : goal.returns-in-Err-session_in-clause-refused
returns-in-Err-session_in-clause-refused g c = λ _.
    rw c.status_of.ensures (refusal_of (g.S.Source.left c.args.source.now) c.deref.result.now c.in-Err-session_in.fault (rw c.deref.ensures.value c.in-Ok.ensures.bytes) c.in-Err-session_in.ensures.gives)

pub returns-in-Err-session_in-clause-complete : goal.returns-in-Err-session_in-clause-complete
returns-in-Err-session_in-clause-complete g c = λ _ _.
    rw c.status_of.ensures (complete_of (g.S.Source.left c.args.source.now) c.deref.result.now c.in-Err-session_in.fault (rw c.deref.ensures.value c.in-Ok.ensures.bytes) c.in-Err-session_in.ensures.gives)

pub returns-in-Ok-play_on_threads-clause-done : goal.returns-in-Ok-play_on_threads-clause-done
returns-in-Ok-play_on_threads-clause-done g c = λ is.
    reports_of (g.S.Source.left c.args.source.now) c.deref.result.now c.in-Ok-session_in.session c.in-Ok-play_on_threads.played.journal.entries (g.P.Patterns.refused c.args.patterns.now) (g.P.Patterns.refused c.play_on_threads.new.patterns) (Appends (g.K.Sink.held c.args.sink.now) (g.K.Sink.held c.report-status.new.sink))
    (rw c.deref.ensures.value c.in-Ok.ensures.bytes) c.in-Ok-session_in.ensures.gives (record { legal = c.in-Ok-play_on_threads.ensures.legal; refused = c.in-Ok-play_on_threads.ensures.refused }) (c.report-status.ensures.done is)

pub returns-in-Ok-play_on_threads-clause-begun : goal.returns-in-Ok-play_on_threads-clause-begun
returns-in-Ok-play_on_threads-clause-begun g c = λ is.
    begun_of (g.S.Source.left c.args.source.now) (g.K.Sink.held c.args.sink.now) (g.K.Sink.held c.report-status.new.sink) c.deref.result.now c.in-Ok-session_in.session c.in-Ok-play_on_threads.played.journal.entries (g.P.Patterns.refused c.args.patterns.now) (g.P.Patterns.refused c.play_on_threads.new.patterns)
    (rw c.deref.ensures.value c.in-Ok.ensures.bytes) c.in-Ok-session_in.ensures.gives (record { legal = c.in-Ok-play_on_threads.ensures.legal; refused = c.in-Ok-play_on_threads.ensures.refused }) (c.report-status.ensures.begun is)

pub returns-in-Ok-play_on_threads-clause-refused : goal.returns-in-Ok-play_on_threads-clause-refused
returns-in-Ok-play_on_threads-clause-refused g c = λ _.
    never_refused (g.S.Source.left c.args.source.now) c.deref.result.now c.in-Ok-session_in.session _ (rw c.deref.ensures.value c.in-Ok.ensures.bytes) c.in-Ok-session_in.ensures.gives

pub returns-in-Err-play_on_threads-clause-begun : goal.returns-in-Err-play_on_threads-clause-begun
returns-in-Err-play_on_threads-clause-begun g c = λ _. nothing_begun (g.S.Source.left c.args.source.now) (g.K.Sink.held c.args.sink.now) (g.P.Patterns.refused c.args.patterns.now) (g.P.Patterns.refused c.play_on_threads.new.patterns)
