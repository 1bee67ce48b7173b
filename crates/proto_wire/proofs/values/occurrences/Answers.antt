use Rattle.std.proofs.Common.{◌∙◌}
use Rattle.proto_wire.proofs.OneofLemmas.{occurrences-yes, occurrences-no, occurrences-within}
use Rattle.proto_wire.proofs.values.occurrences.Goals as goal
use Rattle.proto_wire.proofs.values.occurrences.Goals.{then-is_of_any+in_ok-push, else-is_of_any}

pub loop-field-preserved : goal.loop-field-preserved
loop-field-preserved c =
    elim c.if-is_of_any.branch [
      | then-is_of_any+in_ok-push w ↦
          rw w.all-is
          (occurrences-yes c.args.members.now c.loop-field.all.items w.push.new.self.items c.args.list.now c.loop-field.field-index _ c.loop-field-test.true w.if-is_of_any.ensures w.in_ok-push.ensures.items
          ∙ c.loop-field.invariant)
      | else-is_of_any w ↦
          rw w.all-is
          (occurrences-no c.args.members.now c.loop-field.all.items c.args.list.now c.loop-field.field-index _ c.loop-field-test.true w.if-is_of_any.ensures
          ∙ c.loop-field.invariant)
    ]

pub returns-clause-within : goal.returns-clause-within
returns-clause-within c =
    occurrences-within c.args.members.now c.loop-field.all.items c.args.list.now c.loop-field.field-index c.loop-field-test.false c.loop-field.invariant
