-- How a list of fields spells a string of bytes from its beginning to its end, said without reading it (protobuf.dev, "Encoding": Base
-- 128 Varints, Message Structure, Length-Delimited Records).
use Rattle.std.specs.Prelude.{◌≡◌, ℕ, ◌+◌, ◌-◌, ◌*◌, ◌^◌, ◌<◌, ◌≤◌, List, [], ◌∷◌, ◌++◌, length, MatchResult}
use Rattle.std.specs.List.{AllByRecursion}
use Rattle.std.specs.Int.{w32, w64, from_le_bytes}
use Rattle.proto_wire.specs.Spelling.{spelled_varint, spelled_uint, spelled_bytes}
use Rattle.proto_wire.specs.Wire.{Payload, WireField, varint, eight, bytes, four, fields}

-- the bytes stand for the number: each but the last is 128 and seven bits, the low ones first
abbrev pub StandsFor : List ℕ → ℕ → Type 0
StandsFor [] v = ⊥
StandsFor (b ∷ []) v = (b < 128) × (v ≡ b)
StandsFor (b ∷ c ∷ bs) v = (128 ≤ b) × (high : ℕ) × (v ≡ b - 128 + 128 * high) × StandsFor (c ∷ bs) high

-- a spelling of a varint, not only the shortest one
pub record SpellsVarint (v : ℕ) (bs : List ℕ) : Type 0 where
  pub stands : StandsFor bs v
  pub few : length bs ≤ 10
  pub fits : v < 2 ^ 64

abbrev pub wire_type : Payload → ℕ
wire_type (varint v) = 0
wire_type (eight v) = 1
wire_type (bytes b) = 2
wire_type (four v) = 5

-- what stands behind the tag of a field
abbrev pub SpellsPayload : Payload → List ℕ → Type 0
SpellsPayload (varint v) bs = SpellsVarint v bs
SpellsPayload (eight v) bs = (length bs ≡ 8) × (v ≡ from_le_bytes w64 bs)
SpellsPayload (bytes b) bs = (len : List ℕ) × SpellsVarint (length b) len × (bs ≡ len ++ b)
SpellsPayload (four v) bs = (length bs ≡ 4) × (v ≡ from_le_bytes w32 bs)

-- a field is its tag, which is the number times 8 and the wire type, and its payload
pub record SpellsField (number : ℕ) (payload : Payload) (bs : List ℕ) : Type 0 where
  pub least : 0 < number
  pub most : number ≤ 536870911
  pub tag : List ℕ
  pub body : List ℕ
  pub split : bs ≡ tag ++ body
  pub tagged : SpellsVarint (8 * number + wire_type payload) tag
  pub behind : SpellsPayload payload body

-- the fields spell the bytes one after another, and each tells its place; the first begins at `at`
abbrev pub SpellFrom : ℕ → List WireField → List ℕ → Type 0
SpellFrom at [] bs = bs ≡ []
SpellFrom at (f ∷ fs) bs =
    (first : List ℕ) × (rest : List ℕ) × (bs ≡ first ++ rest) × (f.at ≡ at) × SpellsField f.number f.payload first × SpellFrom (at + length first) fs rest

abbrev pub Spell : List WireField → List ℕ → Type 0
Spell fs bs = SpellFrom 0 fs bs

-- the fields spell a prefix of the bytes, of this length
pub record SpellPrefix (fs : List WireField) (n : ℕ) (bs : List ℕ) : Type 0 where
  pub prefix : List ℕ
  pub rest : List ℕ
  pub split : bs ≡ prefix ++ rest
  pub spelled : Spell fs prefix
  pub len : length prefix ≡ n

-- at is the place after the longest list of fields that the bytes begin with
abbrev pub IsAfterLongest : ℕ → List ℕ → Type 0
IsAfterLongest at bs = (fs : List WireField) × SpellPrefix fs at bs × ((gs : List WireField) (n : ℕ) → SpellPrefix gs n bs → length gs ≤ length fs)

-- What is read is the one list of fields that spells the bytes. Where nothing can be read no list spells them,
-- and the place is that after the longest list that they begin with.
abbrev pub ReadingIsTheSpelling : Type 0
ReadingIsTheSpelling = (bs : List ℕ) →
    MatchResult (fields bs)
    (λ fs. Spell fs bs × ((gs : List WireField) → Spell gs bs → gs ≡ fs))
    (λ at. ((gs : List WireField) → ¬ (Spell gs bs)) × IsAfterLongest at bs)

-- What is written spells the field, so it is read again.
abbrev pub WritingIsASpelling : Type 0
WritingIsASpelling = (number : ℕ) → 0 < number → number ≤ 536870911 →
    ((v : ℕ) → v < 2 ^ 64 → SpellsField number (varint v) (spelled_uint number v))
    × ((b : List ℕ) → length b < 2 ^ 64 → SpellsField number (bytes b) (spelled_bytes number b))

-- Of all spellings of a varint the one that is written is the shortest.
abbrev pub WrittenVarintsAreShortest : Type 0
WrittenVarintsAreShortest = (v : ℕ) (bs : List ℕ) → AllByRecursion (λ b. b < 256) bs → SpellsVarint v bs → length (spelled_varint v) ≤ length bs
