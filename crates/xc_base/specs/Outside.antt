-- What a source has left and a sink holds, where they tell it.
use Rattle.std.specs.Prelude.{◌≡◌, ℕ, ◌<◌, List, ◌++◌, length, Option, None, Some, Result, IfOk, ⊤}

-- nothing is taken of an empty piece alone
abbrev pub TakesSome : {E : Type 0} → Result ℕ E → List ℕ → Type 0
TakesSome result piece = IfOk result (λ n. 0 < length piece → 0 < n)

-- what is held has grown by a prefix of the text
abbrev pub AppendsPrefix : Option (List ℕ) → Option (List ℕ) → List ℕ → Type 0
AppendsPrefix None new text = ⊤
AppendsPrefix (Some held) None text = ⊥
AppendsPrefix (Some held) (Some now) text = (prefix : List ℕ) × (rest : List ℕ) × (text ≡ prefix ++ rest) × (now ≡ held ++ prefix)
