use Rattle.std.proofs.Common.{refl}
use Rattle.proto_wire.proofs.TextLemmas.{is_text-utf8}
use Rattle.proto_wire.proofs.values.as_text.Goals as goal

pub returns-in-Ok : goal.returns-in-Ok
returns-in-Ok c = rw (is_text-utf8 c.args.bytes.now c.in-Ok.ensures.cases.1, c.in-Ok.ensures.cases.0) refl
