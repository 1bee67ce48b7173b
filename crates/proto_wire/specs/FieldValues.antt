-- The values of a number in the list of fields of a message (protobuf.dev, "Encoding": Last One Wins, Oneofs,
-- Message Structure). A field of the number that has another wire type than the listed one isn't seen.
use Rattle.std.specs.Prelude.{ℕ, ◌-◌, ◌%◌, ◌^◌, ℤ, List, [], ◌∷◌, length, drop, filter, sum_by, Bool, true, false, not, ◌==◌, ◌&&◌, Option, Some, None, unwrap_or, Result, Ok, Err, if◌then◌else◌}
use Rattle.std.specs.Int.{w64, cast_signed}
use Rattle.std.specs.List.{filter_map, last_or, concat, list_any, suffix_len}
use Rattle.std.specs.Str.Lossy.{utf8_valid_len}
use Rattle.proto_wire.specs.declared.field.Member.{Member}
use Rattle.proto_wire.specs.declared.field.Member.TheVariants as member
use Rattle.proto_wire.specs.Wire.{Payload, WireField, varint, eight, bytes, four}
use Rattle.proto_wire.specs.Reading.{◌>>=◌, gathered, optional}

abbrev pub varint_of : Payload → Option ℕ
varint_of (varint v) = Some v
varint_of (eight v) = None
varint_of (bytes b) = None
varint_of (four v) = None

abbrev pub bytes_of : Payload → Option (List ℕ)
bytes_of (varint v) = None
bytes_of (eight v) = None
bytes_of (bytes b) = Some b
bytes_of (four v) = None

-- what the field says of the number
abbrev pub uint_at : ℕ → WireField → Option ℕ
uint_at number f = if f.number == number then varint_of f.payload else None

abbrev pub bytes_at : ℕ → WireField → Option (List ℕ)
bytes_at number f = if f.number == number then bytes_of f.payload else None

-- the last varint of the number, 0 where there is none
unfoldable pub last_uint : ℕ → List WireField → ℕ
last_uint number fs = unwrap_or (last_or None (filter_map (uint_at number) fs)) 0

-- a number of 32 bits is the low 32 bits of its varint
abbrev pub last_uint32 : ℕ → List WireField → ℕ
last_uint32 number fs = last_uint number fs % 2 ^ 32

-- an int64 is its varint as two's complement
abbrev pub last_int64 : ℕ → List WireField → ℤ
last_int64 number fs = cast_signed w64 (last_uint number fs)

-- a bool is whether its varint isn't 0
abbrev pub last_bool : ℕ → List WireField → Bool
last_bool number fs = not (last_uint number fs == 0)

-- all bytes of the number, each as it stands
unfoldable pub repeated : ℕ → List WireField → List (List ℕ)
repeated number fs = filter_map (bytes_at number) fs

-- the last bytes of the number, empty where there are none
unfoldable pub last_bytes : ℕ → List WireField → List ℕ
last_bytes number fs = unwrap_or (last_or None (repeated number fs)) []

-- the bytes of a singular message: those of its occurrences one after another, if it has any
abbrev pub joined_of : List (List ℕ) → Option (List ℕ)
joined_of [] = None
joined_of (b ∷ bs) = Some (concat (b ∷ bs))

unfoldable pub joined : ℕ → List WireField → Option (List ℕ)
joined number fs = joined_of (repeated number fs)

-- the bytes are UTF-8
abbrev pub is_text : List ℕ → Bool
is_text b = utf8_valid_len b == length b

-- the text that the field says of the number, or its place where that isn't UTF-8
abbrev pub as_text : ℕ → Option (List ℕ) → Result (Option (List ℕ)) ℕ
as_text at None = Ok None
as_text at (Some b) = if is_text b then Ok (Some b) else Err at

abbrev pub text_at : ℕ → WireField → Result (Option (List ℕ)) ℕ
text_at number f = as_text f.at (bytes_at number f)

-- all texts of the number, or the place of the first that isn't UTF-8
unfoldable pub texts : ℕ → List WireField → Result (List (List ℕ)) ℕ
texts number fs = gathered (text_at number) fs

-- the last text of the number, empty where there is none; each one must be UTF-8
unfoldable pub last_text : ℕ → List WireField → Result (List ℕ) ℕ
last_text number fs = texts number fs >>= λ ts. Ok (unwrap_or (last_or None ts) [])

-- the messages that the number's occurrences spell, each by itself
unfoldable pub read_repeated : {A : Type 0} → (List ℕ → Result A ℕ) → ℕ → List WireField → Result (List A) ℕ
read_repeated reading number fs = gathered (λ f. optional reading (bytes_at number f)) fs

-- the singular message of the number, if it occurs
abbrev pub read_singular : {A : Type 0} → (List ℕ → Result A ℕ) → ℕ → List WireField → Result (Option A) ℕ
read_singular reading number fs = optional reading (joined number fs)

-- the number among these that occurs last
abbrev pub among : List ℕ → WireField → Option ℕ
among numbers f = if list_any (λ n. n == f.number) numbers then Some f.number else None

unfoldable pub oneof_of : List ℕ → List WireField → Option ℕ
oneof_of numbers fs = last_or None (filter_map (among numbers) fs)

-- the field is an occurrence of a member, by its number and wire type
abbrev pub is_varint : Payload → Bool
is_varint (varint v) = true
is_varint (eight v) = false
is_varint (bytes b) = false
is_varint (four v) = false

abbrev pub is_bytes : Payload → Bool
is_bytes (varint v) = false
is_bytes (eight v) = false
is_bytes (bytes b) = true
is_bytes (four v) = false

abbrev pub is_of : WireField → Member → Bool
is_of f (member.Varint number) = (f.number == number) && is_varint f.payload
is_of f (member.Bytes number) = (f.number == number) && is_bytes f.payload

-- the fields that are occurrences of the members of a oneof
unfoldable pub occurrences : List Member → List WireField → List WireField
occurrences members fs = filter (λ f. list_any (is_of f) members) fs

-- the fields after the last one of another number
unfoldable pub last_run : ℕ → List WireField → List WireField
last_run number fs = drop (length fs - suffix_len (λ f. f.number == number) fs) fs

-- how many bytes the length-delimited payloads have
abbrev pub payload_len : Payload → ℕ
payload_len (varint v) = 0
payload_len (eight v) = 0
payload_len (bytes b) = length b
payload_len (four v) = 0

unfoldable pub delimited_len : List WireField → ℕ
delimited_len fs = sum_by (λ f. payload_len f.payload) fs
