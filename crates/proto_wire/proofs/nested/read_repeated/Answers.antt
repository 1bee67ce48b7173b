use Rattle.std.proofs.Common.{arith}
use Rattle.proto_wire.proofs.LenLemmas.{item-within}
use Rattle.proto_wire.proofs.nested.read_repeated.Goals as goal

pub read-requires : goal.read-requires
read-requires g c =
    let within = item-within c.args.number c.args.list.now c.loop-field.field-index _ c.in-Some.bytes.now c.loop-field-test.true c.in-Some.ensures in omega arith
