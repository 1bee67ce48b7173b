-- A reading is a value, or the place of the field that can't be read. What a reader answers is its reading,
-- unless memory ran out.
use Rattle.std.specs.Prelude.{◌≡◌, ℕ, List, [], ◌∷◌, Option, Some, None, Result, Ok, Err}
use Rattle.std.specs.List.{cons_option}
use Rattle.proto_wire.specs.declared.field.WireFault.{WireFault}
use Rattle.proto_wire.specs.declared.field.WireFault.TheVariants.{At, Memory}

infixl 10 ◌>>=◌
abbrev pub ◌>>=◌ : {A B : Type 0} → Result A ℕ → (A → Result B ℕ) → Result B ℕ
(Ok x) >>= f = f x
(Err at) >>= f = Err at

-- the fault is that of the reading, or want of memory
abbrev pub Fails : {A : Type 0} → WireFault → Result A ℕ → Type 0
Fails Memory reading = Unit {0}
Fails (At at) reading = reading ≡ Err at

-- the result, as `view` sees it, is the reading, unless memory ran out
abbrev pub Gives : {X A : Type 0} → (X → A) → Result X WireFault → Result A ℕ → Type 0
Gives view (Ok x) reading = reading ≡ Ok (view x)
Gives view (Err e) reading = Fails e reading

-- what each gives, in order, or the first fault
unfoldable pub gathered : {X A : Type 0} → (X → Result (Option A) ℕ) → List X → Result (List A) ℕ
gathered f [] = Ok []
gathered f (x ∷ xs) = f x >>= λ y. gathered f xs >>= λ ys. Ok (cons_option y ys)

-- the reading of the bytes, if there are any
unfoldable pub optional : {A : Type 0} → (List ℕ → Result A ℕ) → Option (List ℕ) → Result (Option A) ℕ
optional reading None = Ok None
optional reading (Some b) = reading b >>= λ x. Ok (Some x)
