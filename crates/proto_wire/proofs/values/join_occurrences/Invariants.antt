use Rattle.std.proofs.Common.{◌≡◌, drop}
use Rattle.proto_wire.specs.FieldValues.{joined, repeated}
use Rattle.proto_wire.specs.View.{views}
use Rattle.proto_wire.proofs.Runs.{joined_after}
use Rattle.proto_wire.proofs.values.join_occurrences.Given as goal

abbrev pub invariant-loop-field : goal.invariant-loop-field
invariant-loop-field l = joined_after l.all (repeated l.number (views (drop l.field-index l.list))) ≡ joined l.number (views l.list)
