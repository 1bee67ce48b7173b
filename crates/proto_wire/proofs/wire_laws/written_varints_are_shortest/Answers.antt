use Rattle.proto_wire.proofs.WrittenSpelling.{written_varints_are_shortest}
use Rattle.proto_wire.proofs.wire_laws.written_varints_are_shortest.Goals as goal

pub returns : goal.returns
returns c = written_varints_are_shortest
