use Rattle.std.proofs.Common.{◌≡◌, ◌≤◌, ◌+◌, ◌-◌, length, vec_len}
use Rattle.proto_wire.specs.FieldValues.{delimited_len}
use Rattle.proto_wire.specs.View.{views}
use Rattle.proto_wire.specs.Wire.{with_prefix, fields_within, fields}
use Rattle.proto_wire.proofs.field_reader.fields.Given as goal

abbrev pub invariant-loop-rest : goal.invariant-loop-rest
invariant-loop-rest l = record {
  few : vec_len l.list + length l.rest ≤ length l.bytes;
  within : delimited_len (views l.list.items) + length l.rest ≤ length l.bytes;
  read : with_prefix (views l.list.items) (fields_within (length l.bytes - vec_len l.list) (length l.bytes - length l.rest) l.rest) ≡ fields l.bytes;
}

abbrev pub decreases-loop-rest : goal.decreases-loop-rest
decreases-loop-rest l = length l.rest
