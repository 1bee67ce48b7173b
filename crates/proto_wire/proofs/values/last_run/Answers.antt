use Rattle.std.proofs.Common.{arith}
use Rattle.std.proofs.lemmas.List.{take_rest, drop-map}
use Rattle.proto_wire.specs.View.{view, views}
use Rattle.proto_wire.proofs.LenLemmas.{delimited_len-drop}
use Rattle.proto_wire.proofs.OneofLemmas.{last_run-is}
use Rattle.proto_wire.proofs.values.last_run.Goals as goal
use Rattle.proto_wire.proofs.values.last_run.Goals.{then-loop-start-test+else-list-start, else-loop-start-test}

pub returns-clause-fields : goal.returns-clause-fields
returns-clause-fields c =
    last_run-is c.args.number c.args.list.now c.loop-start.start c.loop-start.invariant.0 c.loop-start.invariant.1
    (λ some. elim c.loop-start-test.branch [ then-loop-start-test+else-list-start w ↦ w.if-list-start.false | else-loop-start-test w ↦ absurd (omega arith) ])

pub returns-clause-within : goal.returns-clause-within
returns-clause-within c =
    rw (take_rest, ← drop-map view) (delimited_len-drop c.loop-start.start (views c.args.list.now))
