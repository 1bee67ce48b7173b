-- Members of lists that are filtered and joined, tests of them, and the first that passes.
use Rattle.std.proofs.Common.{◌≡◌, ℕ, zero, suc, ◌<◌, List, [], ◌∷◌, length, get_or, filter, Bool, true, false, cond, Some, None, refl, sym, ap, ◌∙◌, arith}
use Rattle.std.proofs.lemmas.Bool.Decides.{nat_tests}
use Rattle.std.proofs.lemmas.List.Elements.{All-nil, All-cons, All-append, All-head, All-tail, Contains-append_left, Contains-append_right}
use Rattle.std.proofs.lemmas.List.Folds.{list_any_at}
use Rattle.std.proofs.lemmas.List.Sums.{position_or_len_is}
use Rattle.std.specs.Prelude.{All, Contains, position, nat_lt}
use Rattle.std.specs.List.{flat_map, list_any, position_or_len}

-- what holds of each member that passes holds of all that are kept
filtered_by : {X : Type 0} (p : X → Bool) (P : X → Type 0) (b : Bool) (x : X) (kept : List X) → p x ≡ b → (p x ≡ true → P x) → All P kept → All P (cond b (x ∷ kept) kept)
filtered_by p P true x kept e here rest = All-cons P x kept (here e) rest
filtered_by p P false x kept e here rest = rest

pub All-filtered : {X : Type 0} (p : X → Bool) (P : X → Type 0) (xs : List X) → All (λ x. p x ≡ true → P x) xs → All P (filter p xs)
All-filtered p P [] h = All-nil P
All-filtered p P (x ∷ xs) h =
    filtered_by p P (p x) x (filter p xs) refl (All-head (λ x. p x ≡ true → P x) x xs h) (All-filtered p P xs (All-tail (λ x. p x ≡ true → P x) x xs h))

pub All-flat_map : {X A : Type 0} (f : X → List A) (P : A → Type 0) (xs : List X) → All (λ x. All P (f x)) xs → All P (flat_map f xs)
All-flat_map f P [] h = All-nil P
All-flat_map f P (x ∷ xs) h =
    All-append P (f x) (flat_map f xs) (All-head (λ x. All P (f x)) x xs h) (All-flat_map f P xs (All-tail (λ x. All P (f x)) x xs h))

contains_cons : {X : Type 0} (x y : X) (xs : List X) → Contains xs y → Contains (x ∷ xs) y
contains_cons x y xs h = (suc h.0, omega (arith, h.1), h.2)

contains_here : {X : Type 0} (x y : X) (xs : List X) → x ≡ y → Contains (x ∷ xs) y
contains_here x y xs e = (0, omega arith, e)

-- a member that passes is kept
kept_by : {X : Type 0} (p : X → Bool) (b : Bool) (x y : X) (kept : List X) → p x ≡ b → Contains kept y → Contains (cond b (x ∷ kept) kept) y
kept_by p true x y kept e h = contains_cons x y kept h
kept_by p false x y kept e h = h

kept_first : {X : Type 0} (p : X → Bool) (b : Bool) (x y : X) (kept : List X) → p x ≡ b → p y ≡ true → x ≡ y → Contains (cond b (x ∷ kept) kept) y
kept_first p true x y kept e passes is = contains_here x y kept is
kept_first p false x y kept e passes is = absurd (let no = sym e ∙ (ap p is ∙ passes) in cc)

kept_at : {X : Type 0} (p : X → Bool) (xs : List X) (y : X) (k : ℕ) → k < length xs → get_or xs k y ≡ y → p y ≡ true → Contains (filter p xs) y
kept_at p [] y k lt is passes = absurd (omega arith)
kept_at p (x ∷ xs) y zero lt is passes = kept_first p (p x) x y (filter p xs) refl passes is
kept_at p (x ∷ xs) y (suc k) lt is passes = kept_by p (p x) x y (filter p xs) refl (kept_at p xs y k (omega arith) is passes)

pub Contains-filter : {X : Type 0} (p : X → Bool) (xs : List X) (y : X) → Contains xs y → p y ≡ true → Contains (filter p xs) y
Contains-filter p xs y h passes = kept_at p xs y h.0 h.1 h.2 passes

-- a member of a part is a member of the parts joined
pub Contains-flat_map : {X A : Type 0} (f : X → List A) (xs : List X) (i : ℕ) (d : X) (y : A) → i < length xs → Contains (f (get_or xs i d)) y → Contains (flat_map f xs) y
Contains-flat_map f [] i d y lt h = absurd (omega arith)
Contains-flat_map f (x ∷ xs) zero d y lt h = Contains-append_left (f x) (flat_map f xs) y h
Contains-flat_map f (x ∷ xs) (suc i) d y lt h = Contains-append_right (f x) (flat_map f xs) y (Contains-flat_map f xs i d y (omega arith) h)

-- a member that passes is found
pub list_any_contains : {X : Type 0} (p : X → Bool) (xs : List X) (y : X) → Contains xs y → p y ≡ true → list_any p xs ≡ true
list_any_contains p xs y h passes = list_any_at p xs h.0 y h.1 (ap p h.2 ∙ passes)

-- the first place at which a test passes
pub position_is : {X : Type 0} (p : X → Bool) (xs : List X) (i : ℕ) (d : X) → i < length xs → p (get_or xs i d) ≡ true → ((k : ℕ) → k < i → p (get_or xs k d) ≡ false) → position p xs ≡ Some i
position_is p xs i d lt passes before =
    let at = position_or_len_is p xs i d (omega arith) before (λ _. passes) in
    let inside : nat_lt i (length xs) ≡ true = grind (arith, nat_tests) in
    rw (at, inside) refl

no_place : {X : Type 0} (p : X → Bool) (xs : List X) → All (λ x. p x ≡ false) xs → position_or_len p xs ≡ length xs
no_place p [] none = refl
no_place p (x ∷ xs) none = position_or_len_is p (x ∷ xs) (suc (length xs)) x (omega arith) (λ k lt. none k x lt) (λ lt. absurd (omega arith))

pub position_none : {X : Type 0} (p : X → Bool) (xs : List X) → All (λ x. p x ≡ false) xs → position p xs ≡ None
position_none p xs none =
    let at = no_place p xs none in
    let past : nat_lt (length xs) (length xs) ≡ false = grind (arith, nat_tests) in
    rw (at, past) refl
