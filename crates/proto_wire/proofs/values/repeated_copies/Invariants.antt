use Rattle.std.proofs.Common.{◌≡◌, ◌++◌, drop}
use Rattle.proto_wire.specs.FieldValues.{repeated}
use Rattle.proto_wire.specs.View.{views}
use Rattle.proto_wire.proofs.values.repeated_copies.Given as goal

abbrev pub invariant-loop-field : goal.invariant-loop-field
invariant-loop-field l = l.all ++ repeated l.number (views (drop l.field-index l.list)) ≡ repeated l.number (views l.list)
