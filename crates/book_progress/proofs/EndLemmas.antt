-- Lines that have ended, by the places of entries.
use Rattle.std.proofs.Common.{◌≡◌, ◌⊎◌, inl, inr, ℕ, zero, suc, ◌+◌, ◌<◌, ◌≤◌, Bool, true, false, ◌||◌, List, [], ◌∷◌, Some, length, refl, sym, ap, ap₂, ◌∙◌, arith}
use Rattle.std.specs.Prelude.{slice_get, reverse}
use Rattle.std.specs.List.{list_any}
use Rattle.std.proofs.lemmas.Bool.{cases_eq}
use Rattle.std.proofs.lemmas.List.{length-reverse, reverse-append}
use Rattle.std.proofs.lemmas.List.Folds.{list_any-append}

or_swaps : (a b : Bool) → (a || (b || false)) ≡ (b || a)
or_swaps true true = refl
or_swaps true false = refl
or_swaps false true = refl
or_swaps false false = refl

pub any_reversed : {X : Type 0} (p : X → Bool) (xs : List X) → list_any p (reverse xs) ≡ list_any p xs
any_reversed p [] = refl
any_reversed p (x ∷ xs) =
    ap (list_any p) (reverse-append (x ∷ []) xs)
    ∙ list_any-append p (reverse xs) (x ∷ [])
    ∙ or_swaps (list_any p (reverse xs)) (p x)
    ∙ ap (λ b. p x || b) (any_reversed p xs)

or_true : (a b : Bool) → b ≡ true → (a || b) ≡ true
or_true true b is = refl
or_true false b is = is

-- one of the members is found
found : {X : Type 0} (p : X → Bool) (xs : List X) (i : ℕ) (x : X) → slice_get xs i ≡ Some x → p x ≡ true → list_any p xs ≡ true
found p [] i x get is = absurd (cc get)
found p (y ∷ xs) zero x get is = let same : y ≡ x = cc get in ap (λ z. p z || list_any p xs) same ∙ ap (λ b. b || list_any p xs) is
found p (y ∷ xs) (suc i) x get is = or_true (p y) (list_any p xs) (found p xs i x get is)

pub found_reversed : {X : Type 0} (p : X → Bool) (xs : List X) (i : ℕ) (x : X) → slice_get (reverse xs) i ≡ Some x → p x ≡ true → list_any p xs ≡ true
found_reversed p xs i x get is = sym (any_reversed p xs) ∙ found p (reverse xs) i x get is

-- no member of the first places is found
abbrev pub NoneFound : {X : Type 0} → (X → Bool) → List X → ℕ → Type 0
NoneFound {X} p xs n = (i : ℕ) → i < n → (x : X) → slice_get xs i ≡ Some x → p x ≡ false

pub none_more : {X : Type 0} (p : X → Bool) (xs : List X) (n : ℕ) (x : X) → NoneFound p xs n → slice_get xs n ≡ Some x → p x ≡ false → NoneFound p xs (n + 1)
none_more p xs n x before get is i less y at = by_place (cases_eq i n)
  where
    by_place : (i ≡ n) ⊎ (i ≡ n → ⊥) → p y ≡ false
    by_place (inl same) =
        let here : slice_get xs n ≡ Some y = ap (slice_get xs) (sym same) ∙ at in
        let equal : x ≡ y = cc (get, here) in
        ap p (sym equal) ∙ is
    by_place (inr other) = before i (omega (arith, less, other)) y at

none_at_all : {X : Type 0} (p : X → Bool) (xs : List X) (n : ℕ) → length xs ≤ n → NoneFound p xs n → list_any p xs ≡ false
none_at_all p [] n long none = refl
none_at_all p (x ∷ xs) zero long none = absurd (omega (arith, long))
none_at_all p (x ∷ xs) (suc n) long none =
    ap₂ (λ a b. a || b) (none 0 (omega arith) x refl) (none_at_all p xs n (omega (arith, long)) (λ i less y at. none (suc i) (omega (arith, less)) y at))

pub none_reversed : {X : Type 0} (p : X → Bool) (xs : List X) (n : ℕ) → length xs ≤ n → NoneFound p (reverse xs) n → list_any p xs ≡ false
none_reversed p xs n long none = let same = length-reverse xs in sym (any_reversed p xs) ∙ none_at_all p (reverse xs) n (omega (arith, long, same)) none
