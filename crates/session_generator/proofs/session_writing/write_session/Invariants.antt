use Rattle.std.proofs.Common.{◌≤◌}
use Rattle.std.specs.Io.KnownBytes.{Appends}
use Rattle.session_generator.specs.Generated.{generated}
use Rattle.session_generator.proofs.session_writing.write_session.Given as goal

abbrev pub invariant-loop-before : goal.invariant-loop-before
invariant-loop-before g l = record {
  bytes : Appends (g.K.Sink.held l.fn.sink) (g.K.Sink.held l.sink) (generated l.before);
  later : g.K.Sink.faults l.fn.sink ≤ g.K.Sink.faults l.sink;
}
