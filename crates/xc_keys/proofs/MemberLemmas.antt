-- Members of lists.
use Rattle.std.proofs.Common.{◌≡◌, ◌⊎◌, inl, inr, zero, suc, Bool, true, false, cond, List, [], ◌∷◌, map, refl, sym, ◌∙◌, subst, arith, Ordering}
use Rattle.std.specs.Prelude.{Contains, filter}
use Rattle.std.specs.declared.cmp.Ordering.TheVariants.{Less}
use Rattle.std.specs.List.{AllByRecursion}
use Rattle.std.specs.List.Sorted.{IsStrictlySortedBy}
use Rattle.std.proofs.lemmas.List.Elements.{Contains-append_left, Contains-append_right, Contains-push}

pub no_member : {X : Type 0} (x : X) → Contains [] x → ⊥
no_member x (i, lt, is) = absurd (omega (arith, lt))

pub here : {X : Type 0} (x : X) (xs : List X) → Contains (x ∷ xs) x
here x xs = Contains-append_left (x ∷ []) xs x (Contains-push [] x)

pub there : {X : Type 0} (x : X) (xs : List X) (y : X) → Contains xs y → Contains (x ∷ xs) y
there x xs y has = Contains-append_right (x ∷ []) xs y has

pub at_first : {X : Type 0} (x y : X) (xs : List X) → Contains (x ∷ xs) y → (x ≡ y) ⊎ Contains xs y
at_first x y xs (zero, lt, is) = inl is
at_first x y xs (suc i, lt, is) = inr (i, (omega (arith, lt)), is)

pub mapped : {X Y : Type 0} (f : X → Y) (xs : List X) (x : X) → Contains xs x → Contains (map f xs) (f x)
mapped f [] x has = absurd (no_member x has)
mapped f (y ∷ xs) x has =
    elim (at_first y x xs has) [
      | inl is ↦ subst (λ z. Contains (f y ∷ map f xs) (f z)) is (here (f y) (map f xs))
      | inr later ↦ there (f y) (map f xs) (f x) (mapped f xs x later)
    ]

pub from_mapped : {X Y : Type 0} (f : X → Y) (xs : List X) (y : Y) → Contains (map f xs) y → (x : X) × Contains xs x × (f x ≡ y)
from_mapped f [] y has = absurd (no_member y has)
from_mapped f (x ∷ xs) y has =
    elim (at_first (f x) y (map f xs) has) [
      | inl is ↦ (x, here x xs, is)
      | inr later ↦ let (z, there_z, is) = from_mapped f xs y later in (z, there x xs z there_z, is)
    ]

kept_more : {X : Type 0} (b : Bool) (x y : X) (xs : List X) → Contains xs y → Contains (cond b (x ∷ xs) xs) y
kept_more true x y xs has = there x xs y has
kept_more false x y xs has = has

pub kept : {X : Type 0} (p : X → Bool) (xs : List X) (x : X) → Contains xs x → p x ≡ true → Contains (filter p xs) x
kept p [] x has passes = absurd (no_member x has)
kept p (y ∷ xs) x has passes =
    elim (at_first y x xs has) [
      | inl is ↦ subst (λ b. Contains (cond b (y ∷ filter p xs) (filter p xs)) x) (sym (subst (λ z. p z ≡ true) (sym is) passes)) (subst (λ z. Contains (y ∷ filter p xs) z) is (here y (filter p xs)))
      | inr later ↦ kept_more (p y) y x (filter p xs) (kept p xs x later passes)
    ]

from_kept_at : {X : Type 0} (b : Bool) (p : X → Bool) (y x : X) (xs : List X) → p y ≡ b → (Contains (filter p xs) x → Contains xs x × (p x ≡ true)) → Contains (cond b (y ∷ filter p xs) (filter p xs)) x → Contains (y ∷ xs) x × (p x ≡ true)
from_kept_at true p y x xs is rest has =
    elim (at_first y x (filter p xs) has) [
      | inl same ↦ (subst (λ z. Contains (y ∷ xs) z) same (here y xs), subst (λ z. p z ≡ true) same is)
      | inr later ↦ (there y xs x (rest later).0, (rest later).1)
    ]
from_kept_at false p y x xs is rest has = (there y xs x (rest has).0, (rest has).1)

pub from_kept : {X : Type 0} (p : X → Bool) (xs : List X) (x : X) → Contains (filter p xs) x → Contains xs x × (p x ≡ true)
from_kept p [] x has = absurd (no_member x has)
from_kept p (y ∷ xs) x has = from_kept_at (p y) p y x xs refl (λ later. from_kept p xs x later) has

all_alike : {K : Type 0} (P Q : K → Type 0) → ((y : K) → P y → Q y) → (ys : List K) → AllByRecursion P ys → AllByRecursion Q ys
all_alike P Q goes [] all = tt
all_alike P Q goes (y ∷ ys) (one, all) = (goes y one, all_alike P Q goes ys all)

-- a list in one order is in any that compares alike
pub sorted_alike : {K : Type 0} (R S : K → K → Ordering) → ((x y : K) → R x y ≡ S x y) → (ks : List K) → IsStrictlySortedBy R ks → IsStrictlySortedBy S ks
unfolding IsStrictlySortedBy
sorted_alike R S alike [] sorted = tt
sorted_alike R S alike (x ∷ ks) (below, sorted) = (all_alike (λ y. R x y ≡ Less) (λ y. S x y ≡ Less) (λ y is. sym (alike x y) ∙ is) ks below, sorted_alike R S alike ks sorted)
