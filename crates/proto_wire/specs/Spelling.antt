-- The spelling that is written: of a varint the shortest one (protobuf.dev, "Encoding": Base 128 Varints).
use Rattle.std.specs.Prelude.{ℕ, zero, suc, ◌+◌, ◌*◌, ◌/◌, ◌%◌, List, [], ◌∷◌, ◌++◌, length, nat_lt, ◌==◌, if◌then◌else◌}

-- at most n bytes, each but the last 128 and the next seven bits, the low ones first
unfoldable pub spelled_within : ℕ → ℕ → List ℕ
spelled_within zero v = []
spelled_within (suc n) v = if nat_lt v 128 then v ∷ [] else (128 + v % 128) ∷ spelled_within n (v / 128)

-- ten bytes serve for 64 bits
abbrev pub spelled_varint : ℕ → List ℕ
spelled_varint v = spelled_within 10 v

abbrev pub spelled_uint : ℕ → ℕ → List ℕ
spelled_uint number v = spelled_varint (8 * number) ++ spelled_varint v

abbrev pub spelled_bytes : ℕ → List ℕ → List ℕ
spelled_bytes number b = spelled_varint (8 * number + 2) ++ spelled_varint (length b) ++ b

-- a field that isn't written where it has its default
unfoldable pub number_field : ℕ → ℕ → List ℕ
number_field number v = if v == 0 then [] else spelled_uint number v

unfoldable pub text_field : ℕ → List ℕ → List ℕ
text_field number b = if length b == 0 then [] else spelled_bytes number b
