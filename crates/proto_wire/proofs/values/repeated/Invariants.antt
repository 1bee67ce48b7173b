use Rattle.std.proofs.Common.{◌≡◌, ◌++◌, drop, map}
use Rattle.proto_wire.specs.FieldValues.{repeated}
use Rattle.proto_wire.specs.View.{now, views}
use Rattle.proto_wire.proofs.values.repeated.Given as goal

abbrev pub invariant-loop-field : goal.invariant-loop-field
invariant-loop-field l = map now l.all.items ++ repeated l.number (views (drop l.field-index l.list)) ≡ repeated l.number (views l.list)
