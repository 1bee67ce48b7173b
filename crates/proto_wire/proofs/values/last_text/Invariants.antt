use Rattle.std.proofs.Common.{◌≡◌, drop, Some, Ok, []}
use Rattle.std.specs.Prelude.{unwrap_or}
use Rattle.std.specs.List.{last_or}
use Rattle.std.specs.Str.{IsUtf8}
use Rattle.proto_wire.specs.Reading.{◌>>=◌}
use Rattle.proto_wire.specs.FieldValues.{texts, last_text}
use Rattle.proto_wire.specs.View.{views}
use Rattle.proto_wire.proofs.values.last_text.Given as goal

abbrev pub invariant-loop-field : goal.invariant-loop-field
invariant-loop-field l = record {
  utf8 : IsUtf8 l.last;
  read : (texts l.number (views (drop l.field-index l.list)) >>= λ ts. Ok (unwrap_or (last_or (Some l.last) ts) [])) ≡ last_text l.number (views l.list);
}
