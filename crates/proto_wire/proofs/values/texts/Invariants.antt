use Rattle.std.proofs.Common.{◌≡◌, drop}
use Rattle.proto_wire.specs.FieldValues.{texts}
use Rattle.proto_wire.specs.View.{views}
use Rattle.proto_wire.proofs.Runs.{gathered_after}
use Rattle.proto_wire.proofs.values.texts.Given as goal

abbrev pub invariant-loop-field : goal.invariant-loop-field
invariant-loop-field l = gathered_after l.all (texts l.number (views (drop l.field-index l.list))) ≡ texts l.number (views l.list)
