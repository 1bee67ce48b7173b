use Rattle.std.proofs.Common.{◌≡◌, None, drop}
use Rattle.std.specs.List.{filter_map, last_or}
use Rattle.proto_wire.specs.FieldValues.{uint_at}
use Rattle.proto_wire.specs.View.{views}
use Rattle.proto_wire.proofs.values.last_uint.Given as goal

abbrev pub invariant-loop-field : goal.invariant-loop-field
invariant-loop-field l = last_or l.last (filter_map (uint_at l.number) (views (drop l.field-index l.list))) ≡ last_or None (filter_map (uint_at l.number) (views l.list))
