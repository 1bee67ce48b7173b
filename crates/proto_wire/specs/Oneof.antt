-- The value of a oneof, by the occurrences of its members: the member that occurs last is set (protobuf.dev,
-- "Encoding": Oneofs).
use Rattle.std.specs.Option.{option_or}
use Rattle.std.specs.Prelude.{ℕ, List, ◌==◌, Option, Some, None, Result, if◌then◌else◌}
use Rattle.proto_wire.specs.FieldValues.{read_singular, last_run}
use Rattle.proto_wire.specs.Wire.{WireField}

-- the message of a member, if that is the one set: it is read from its occurrences after those of any other one
abbrev pub read_member : {A : Type 0} → (List ℕ → Result A ℕ) → ℕ → List WireField → Result (Option A) ℕ
read_member reading number members = read_singular reading number (last_run number members)

-- the value of the member of this number, if that is the one set
abbrev pub if_set : {A : Type 0} → Option ℕ → ℕ → A → Option A
if_set None number value = None
if_set (Some set) number value = if set == number then Some value else None

infixl 5 ◌or◌
abbrev pub ◌or◌ : {A : Type 0} → Option A → Option A → Option A
a or b = option_or a b
