use Rattle.std.proofs.Common.{◌≡◌, None, drop}
use Rattle.std.specs.List.{filter_map, last_or}
use Rattle.proto_wire.specs.FieldValues.{among}
use Rattle.proto_wire.specs.View.{views}
use Rattle.proto_wire.proofs.values.oneof_of.Given as goal

abbrev pub invariant-loop-field : goal.invariant-loop-field
invariant-loop-field l = last_or l.last (filter_map (among l.numbers) (views (drop l.field-index l.list))) ≡ last_or None (filter_map (among l.numbers) (views l.list))
