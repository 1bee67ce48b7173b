use Rattle.std.proofs.Common.{◌≡◌}
use Rattle.xds_replay.proofs.standard_streams.StandardInputSource.read.Given as goal

abbrev pub invariant-loop-turn : goal.invariant-loop-turn
invariant-loop-turn g l = l.self.faults ≡ l.fn.self.faults
