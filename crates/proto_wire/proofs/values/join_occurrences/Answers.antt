use Rattle.proto_wire.specs.FieldValues.{repeated, joined}
use Rattle.proto_wire.specs.View.{views}
use Rattle.proto_wire.proofs.LenLemmas.{joined-within}
use Rattle.proto_wire.proofs.Runs.{joined_after-none, joined_after-end}
use Rattle.proto_wire.proofs.values.join_occurrences.Goals as goal

pub loop-field-init : goal.loop-field-init
unfolding joined
loop-field-init c = joined_after-none (repeated c.args.number (views c.args.list.now))

pub returns-clause-within : goal.returns-clause-within
returns-clause-within c =
    let all = joined_after-end c.args.number c.loop-field.all c.args.list.now c.loop-field.field-index c.loop-field-test.false c.loop-field.invariant in
    rw all (joined-within c.args.number (views c.args.list.now))
