use Rattle.std.proofs.Common.{◌≡◌, ◌++◌, drop}
use Rattle.proto_wire.specs.FieldValues.{occurrences}
use Rattle.proto_wire.specs.View.{views}
use Rattle.proto_wire.proofs.values.occurrences.Given as goal

abbrev pub invariant-loop-field : goal.invariant-loop-field
invariant-loop-field l = views l.all.items ++ occurrences l.members (views (drop l.field-index l.list)) ≡ occurrences l.members (views l.list)
