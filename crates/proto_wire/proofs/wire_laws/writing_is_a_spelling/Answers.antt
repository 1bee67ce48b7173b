use Rattle.proto_wire.proofs.WrittenSpelling.{writing_is_a_spelling}
use Rattle.proto_wire.proofs.wire_laws.writing_is_a_spelling.Goals as goal

pub returns : goal.returns
returns c = writing_is_a_spelling
