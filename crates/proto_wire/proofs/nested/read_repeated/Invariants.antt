use Rattle.std.proofs.Common.{◌≡◌, drop}
use Rattle.proto_wire.specs.FieldValues.{read_repeated}
use Rattle.proto_wire.specs.View.{views}
use Rattle.proto_wire.proofs.Runs.{gathered_after}
use Rattle.proto_wire.proofs.nested.read_repeated.Given as goal

abbrev pub invariant-loop-field : goal.invariant-loop-field
invariant-loop-field g l = gathered_after l.all (read_repeated g.M.Message.reading l.number (views (drop l.field-index l.list))) ≡ read_repeated g.M.Message.reading l.number (views l.list)
