-- The first member of a list that passes a test, and those that pass it.
use Rattle.std.proofs.Common.{◌≡◌, ℕ, suc, ◌+◌, ◌<◌, ◌≤◌, List, [], ◌∷◌, length, drop, get_or, filter, Bool, true, false, cond, not, Some, None, refl, ap, ◌∙◌, arith}
use Rattle.std.proofs.lemmas.Bool.Decides.{nat_tests}
use Rattle.std.proofs.lemmas.List.Sums.{fails_before_first}
use Rattle.std.specs.List.{position_or_len}
use Rattle.std.specs.Prelude.{position, nat_lt}

-- where none passes, none is kept
none_kept : {X : Type 0} (p : X → Bool) (b : Bool) (x : X) (xs : List X) → p x ≡ b → (length xs ≤ position_or_len p xs → filter p xs ≡ []) → suc (length xs) ≤ cond (not b) (1 + position_or_len p xs) 0 → cond b (x ∷ filter p xs) (filter p xs) ≡ []
none_kept p true x xs e more le = absurd (omega arith)
none_kept p false x xs e more le = more (omega arith)

filter_past : {X : Type 0} (p : X → Bool) (xs : List X) → length xs ≤ position_or_len p xs → filter p xs ≡ []
filter_past p [] le = refl
filter_past p (x ∷ xs) le = none_kept p (p x) x xs refl (filter_past p xs) le

-- the first that passes is the first that is kept
first_kept : {X : Type 0} (p : X → Bool) (b : Bool) (x d : X) (xs : List X) → p x ≡ b → (position_or_len p xs < length xs → filter p xs ≡ get_or xs (position_or_len p xs) d ∷ filter p (drop (suc (position_or_len p xs)) xs)) → cond (not b) (1 + position_or_len p xs) 0 < suc (length xs) → cond b (x ∷ filter p xs) (filter p xs) ≡ get_or (x ∷ xs) (cond (not b) (1 + position_or_len p xs) 0) d ∷ filter p (drop (suc (cond (not b) (1 + position_or_len p xs) 0)) (x ∷ xs))
first_kept p true x d xs e more lt = refl
first_kept p false x d xs e more lt =
    let next : suc (position_or_len p xs) ≡ 1 + position_or_len p xs = omega arith in
    more (omega arith) ∙ ap (λ (k : ℕ). get_or (x ∷ xs) k d ∷ filter p (drop k xs)) next

filter_at : {X : Type 0} (p : X → Bool) (xs : List X) (d : X) → position_or_len p xs < length xs → filter p xs ≡ get_or xs (position_or_len p xs) d ∷ filter p (drop (suc (position_or_len p xs)) xs)
filter_at p [] d lt = absurd (omega arith)
filter_at p (x ∷ xs) d lt = first_kept p (p x) x d xs refl (filter_at p xs d) lt

none_at : (n m : ℕ) (b : Bool) → nat_lt n m ≡ b → cond b (Some n) None ≡ None → m ≤ n
none_at n m true e is = absurd (cc)
none_at n m false e is = grind (arith, nat_tests)

some_at : (n m i : ℕ) (b : Bool) → nat_lt n m ≡ b → cond b (Some n) None ≡ Some i → (n < m) × (n ≡ i)
some_at n m i true e is = (grind (arith, nat_tests), cc)
some_at n m i false e is = absurd (cc)

-- a list without a first member that passes keeps none
pub filter_none : {X : Type 0} (p : X → Bool) (xs : List X) → position p xs ≡ None → filter p xs ≡ []
filter_none p xs e = filter_past p xs (none_at (position_or_len p xs) (length xs) (nat_lt (position_or_len p xs) (length xs)) refl e)

-- any other keeps the first that passes, and then what its rest keeps
pub filter_first : {X : Type 0} (p : X → Bool) (xs : List X) (i : ℕ) (d : X) → position p xs ≡ Some i → filter p xs ≡ get_or xs i d ∷ filter p (drop (i + 1) xs)
filter_first p xs i d e =
    let at = some_at (position_or_len p xs) (length xs) i (nat_lt (position_or_len p xs) (length xs)) refl e in
    let next : suc (position_or_len p xs) ≡ i + 1 = omega arith in
    filter_at p xs d at.0
    ∙ (ap (λ (k : ℕ). get_or xs k d ∷ filter p (drop (suc (position_or_len p xs)) xs)) at.1 ∙ ap (λ (k : ℕ). get_or xs i d ∷ filter p (drop k xs)) next)

-- where none is first, none passes
pub none_passes : {X : Type 0} (p : X → Bool) (xs : List X) → position p xs ≡ None → (k : ℕ) (d : X) → k < length xs → p (get_or xs k d) ≡ false
none_passes p xs e k d lt =
    let past = none_at (position_or_len p xs) (length xs) (nat_lt (position_or_len p xs) (length xs)) refl e in
    fails_before_first p xs k d (omega arith)
