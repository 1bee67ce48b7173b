-- The wire form of a message, read from left to right: varints, fields, and the list of fields that bytes
-- spell (protobuf.dev, "Encoding": Base 128 Varints, Message Structure, Length-Delimited Records).
use Rattle.std.specs.Prelude.{ℕ, zero, suc, ◌+◌, ◌-◌, ◌*◌, ◌/◌, ◌%◌, ◌^◌, List, [], ◌∷◌, ◌++◌, length, take, drop, ◌||◌, Option, Some, None, option_map, option_and_then, Result, Ok, Err, nat_lt, ◌==◌, if◌then◌else◌}
use Rattle.std.specs.Int.{Width, w32, w64, byte_len, from_le_bytes}

infixl 10 ◌>>=◌
abbrev pub ◌>>=◌ : {A B : Type 0} → Option A → (A → Option B) → Option B
o >>= f = option_and_then f o

-- a value, if there is one, with these bytes after it
abbrev pub with_rest : {A : Type 0} → List ℕ → Option A → Option (A × List ℕ)
with_rest rest None = None
with_rest rest (Some x) = Some (x, rest)

-- a number of 64 bits
abbrev pub fits : ℕ → Option ℕ
fits v = if nat_lt v (2 ^ 64) then Some v else None

-- the seven low bits of a byte that isn't the last, with the number that the bytes after it stand for
abbrev pub onto_low : ℕ → Option (ℕ × List ℕ) → Option (ℕ × List ℕ)
onto_low b None = None
onto_low b (Some high) = with_rest high.1 (fits (b - 128 + 128 * high.0))

-- a varint of at most n bytes, and the bytes after it: each byte but the last is 128 and seven bits, the
-- low ones first
unfoldable pub varint_within : ℕ → List ℕ → Option (ℕ × List ℕ)
varint_within n [] = None
varint_within zero (b ∷ bs) = None
varint_within (suc n) (b ∷ bs) = if nat_lt b 128 then Some (b, bs) else onto_low b (varint_within n bs)

-- the varint at the beginning, and the bytes after it
unfoldable pub varint_at : List ℕ → Option (ℕ × List ℕ)
varint_at bs = varint_within 10 bs

-- what a field holds, by its wire type
pub data Payload : Type 0 where
  varint : ℕ → Payload
  eight : ℕ → Payload
  bytes : List ℕ → Payload
  four : ℕ → Payload

-- a number of a fixed width, the low byte first
abbrev pub fixed_at : Width → List ℕ → Option (ℕ × List ℕ)
fixed_at w bs = if nat_lt (length bs) (byte_len w) then None else Some (from_le_bytes w (take (byte_len w) bs), drop (byte_len w) bs)

-- a length, and that many bytes
unfoldable pub delimited_at : List ℕ → Option (List ℕ × List ℕ)
delimited_at bs = do
  n ← varint_at bs
  if nat_lt (length n.1) n.0 then None else Some (take n.0 n.1, drop n.0 n.1)

-- the payload of a field of this wire type; types 3 and 4 (groups), 6 and 7 have none
unfoldable pub payload_at : ℕ → List ℕ → Option (Payload × List ℕ)
payload_at wire_type bs =
    if wire_type == 0 then option_map (λ r. (varint r.0, r.1)) (varint_at bs)
    else if wire_type == 1 then option_map (λ r. (eight r.0, r.1)) (fixed_at w64 bs)
    else if wire_type == 2 then option_map (λ r. (bytes r.0, r.1)) (delimited_at bs)
    else if wire_type == 5 then option_map (λ r. (four r.0, r.1)) (fixed_at w32 bs)
    else None

-- the number and payload of the field at the beginning: its tag is the number times 8 and the wire type, and
-- numbers go from 1 to 2 ^ 29 - 1
unfoldable pub field_at : List ℕ → Option ((ℕ × Payload) × List ℕ)
field_at bs = do
  tag ← varint_at bs
  payload ← payload_at (tag.0 % 8) tag.1
  if (tag.0 / 8 == 0) || nat_lt 536870911 (tag.0 / 8) then None else Some ((tag.0 / 8, payload.0), payload.1)

-- a field, with the place at which it begins in its message
pub record WireField : Type 0 where
  pub at : ℕ
  pub number : ℕ
  pub payload : Payload

abbrev pub with_prefix : {A : Type 0} → List A → Result (List A) ℕ → Result (List A) ℕ
with_prefix prefix (Ok xs) = Ok (prefix ++ xs)
with_prefix prefix (Err at) = Err at

-- the field that was read, before those of the bytes after it
abbrev pub before_others : ℕ → List ℕ → Option ((ℕ × Payload) × List ℕ) → (ℕ → List ℕ → Result (List WireField) ℕ) → Result (List WireField) ℕ
before_others at bs None others = Err at
before_others at bs (Some f) others =
    with_prefix (record { at = at; number = f.0.0; payload = f.0.1 } ∷ []) (others (at + (length bs - length f.1)) f.1)

-- the fields of bytes that begin at a place, at most n of them, or the place of the one that can't be read
unfoldable pub fields_within : ℕ → ℕ → List ℕ → Result (List WireField) ℕ
fields_within n at [] = Ok []
fields_within zero at (b ∷ bs) = Err at
fields_within (suc n) at (b ∷ bs) = before_others at (b ∷ bs) (field_at (b ∷ bs)) (λ a rest. fields_within n a rest)

-- the fields that the bytes spell, or the place of the first one that can't be read
unfoldable pub fields : List ℕ → Result (List WireField) ℕ
fields bs = fields_within (length bs) 0 bs
