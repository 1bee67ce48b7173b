-- What is left of a reading in the midst of a loop.
use Rattle.std.proofs.Common.{◌≡◌, ◌≤◌, ℕ, List, [], ◌∷◌, ◌++◌, length, Option, Some, None, Result, Ok, Err, refl, sym, ap, ◌∙◌, append_assoc, append-nil, drop}
use Rattle.std.specs.Prelude.{unwrap_or}
use Rattle.std.specs.List.{concat, last_or}
use Rattle.std.proofs.lemmas.List.{drop_all}
use Rattle.proto_wire.specs.Reading.{◌>>=◌}
use Rattle.proto_wire.specs.declared.field.Field.{Field}
use Rattle.proto_wire.specs.FieldValues.{repeated, joined, joined_of}
use Rattle.proto_wire.specs.View.{views}

-- the bytes so far, with those that are left
abbrev pub joined_after : Option (List ℕ) → List (List ℕ) → Option (List ℕ)
joined_after o [] = o
joined_after o (b ∷ bs) = joined_after (Some (unwrap_or o [] ++ b)) bs

after_some : (a : List ℕ) (bs : List (List ℕ)) → joined_after (Some a) bs ≡ Some (a ++ concat bs)
after_some a [] = ap (λ (l : List ℕ). Some l) (sym (append-nil a))
after_some a (b ∷ bs) = after_some (a ++ b) bs ∙ ap (λ (l : List ℕ). Some l) (append_assoc a b (concat bs))

pub joined_after-none : (bs : List (List ℕ)) → joined_after None bs ≡ joined_of bs
joined_after-none [] = refl
joined_after-none (b ∷ bs) = after_some b bs

-- the values so far, with what is left to give
abbrev pub gathered_after : {A : Type 0} → List A → Result (List A) ℕ → Result (List A) ℕ
gathered_after prefix rest = rest >>= λ xs. Ok (prefix ++ xs)

-- a last value that is the default may be none
pub last_or-default : {A : Type 0} (d : A) (xs : List A) → unwrap_or (last_or (Some d) xs) d ≡ unwrap_or (last_or None xs) d
last_or-default d [] = refl
last_or-default d (x ∷ xs) = refl

pub last_or-default_read : {A : Type 0} (d : A) (r : Result (List A) ℕ) → (r >>= λ xs. Ok (unwrap_or (last_or (Some d) xs) d)) ≡ (r >>= λ xs. Ok (unwrap_or (last_or None xs) d))
last_or-default_read {A} d (Ok xs) = ap (λ (y : A). Ok y) (last_or-default d xs)
last_or-default_read d (Err at) = refl

-- no field is left
pub joined_after-end : (number : ℕ) (o : Option (List ℕ)) (fs : List Field) (i : ℕ) → length fs ≤ i → joined_after o (repeated number (views (drop i fs))) ≡ joined number (views fs) → o ≡ joined number (views fs)
unfolding repeated
joined_after-end number o fs i le e = rw (drop_all i fs le) at e
