use Rattle.std.proofs.Common.{◌≡◌, Some, drop, []}
use Rattle.std.specs.List.{last_or}
use Rattle.std.specs.Prelude.{unwrap_or}
use Rattle.proto_wire.specs.FieldValues.{repeated, last_bytes}
use Rattle.proto_wire.specs.View.{views}
use Rattle.proto_wire.proofs.values.last_bytes.Given as goal

abbrev pub invariant-loop-field : goal.invariant-loop-field
invariant-loop-field l = unwrap_or (last_or (Some l.last) (repeated l.number (views (drop l.field-index l.list)))) [] ≡ last_bytes l.number (views l.list)
