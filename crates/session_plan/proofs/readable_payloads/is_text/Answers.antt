use Rattle.std.proofs.Common.{sym}
use Rattle.proto_wire.proofs.TextLemmas.{is_text-utf8}
use Rattle.session_plan.proofs.readable_payloads.is_text.Goals as goal

pub returns-in-Ok : goal.returns-in-Ok
returns-in-Ok c = sym (is_text-utf8 c.args.bytes.now c.in-Ok.ensures.cases.1)
