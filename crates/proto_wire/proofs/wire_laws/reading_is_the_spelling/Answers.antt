use Rattle.proto_wire.proofs.ListSpelling.{reading_is_the_spelling}
use Rattle.proto_wire.proofs.wire_laws.reading_is_the_spelling.Goals as goal

pub returns : goal.returns
returns c = reading_is_the_spelling
