-- Members of lists.
use Rattle.std.proofs.Common.{◌≡◌, ◌⊎◌, inl, inr, Option, Some, None, List, [], ◌∷◌, refl, sym, ap, subst, Ordering}
use Rattle.std.specs.Prelude.{Contains, option_to_list}
use Rattle.std.specs.declared.cmp.Ordering.TheVariants.{Less, Equal, Greater}
use Rattle.std.specs.BTreeSet.{insert_key}
use Rattle.std.specs.List.{flat_map}
use Rattle.std.specs.Ordering.{match_ordering}
use Rattle.std.proofs.lemmas.List.Elements.{Contains-append_left, Contains-append_right, Contains-append_cases}
use Rattle.std.proofs.lemmas.Map.Lookups.{CmpEqualImpliesEq}
use Rattle.xc_keys.proofs.MemberLemmas.{no_member, here, there, at_first}
use Rattle.config_assembly.specs.Orders.{put_in, sorted}

-- ---- joined lists

pub in_joined : {X Y : Type 0} (f : X → List Y) (xs : List X) (x : X) (y : Y) → Contains xs x → Contains (f x) y → Contains (flat_map f xs) y
in_joined f [] x y has own = absurd (no_member x has)
in_joined f (z ∷ xs) x y has own =
    elim (at_first z x xs has) [
      | inl is ↦ Contains-append_left (f z) (flat_map f xs) y (subst (λ w. Contains (f w) y) (sym is) own)
      | inr later ↦ Contains-append_right (f z) (flat_map f xs) y (in_joined f xs x y later own)
    ]

pub from_joined : {X Y : Type 0} (f : X → List Y) (xs : List X) (y : Y) → Contains (flat_map f xs) y → (x : X) × Contains xs x × Contains (f x) y
from_joined f [] y has = absurd (no_member y has)
from_joined f (x ∷ xs) y has =
    elim (Contains-append_cases (f x) (flat_map f xs) y has) [
      | inl own ↦ (x, here x xs, own)
      | inr later ↦ let (z, has_z, own) = from_joined f xs y later in (z, there x xs z has_z, own)
    ]

pub from_option : {X : Type 0} (o : Option X) (x : X) → Contains (option_to_list o) x → o ≡ Some x
from_option None x has = absurd (no_member x has)
from_option (Some y) x has =
    elim (at_first y x [] has) [
      | inl is ↦ ap (λ z. Some z) is
      | inr later ↦ absurd (no_member x later)
    ]

-- ---- lists in order

module _ {X : Type 0} (order : X → X → Ordering) (exact : CmpEqualImpliesEq order) where
  inserted_at : (o : Ordering) (x y : X) (xs : List X) → (o ≡ Equal → y ≡ x) → Contains (insert_key order xs y) y → Contains (match_ordering o (y ∷ x ∷ xs) (x ∷ xs) (x ∷ insert_key order xs y)) y
  inserted_at Less x y xs same more = here y (x ∷ xs)
  inserted_at Equal x y xs same more = subst (λ z. Contains (x ∷ xs) z) (sym (same refl)) (here x xs)
  inserted_at Greater x y xs same more = there x (insert_key order xs y) y more

  inserted : (y : X) (xs : List X) → Contains (insert_key order xs y) y
  inserted y [] = here y []
  inserted y (x ∷ xs) = inserted_at (order y x) x y xs (exact y x) (inserted y xs)

  stays_at : (o : Ordering) (x y z : X) (xs : List X) → (Contains xs z → Contains (insert_key order xs y) z) → Contains (x ∷ xs) z → Contains (match_ordering o (y ∷ x ∷ xs) (x ∷ xs) (x ∷ insert_key order xs y)) z
  stays_at Less x y z xs more has = there y (x ∷ xs) z has
  stays_at Equal x y z xs more has = has
  stays_at Greater x y z xs more has =
      elim (at_first x z xs has) [
        | inl is ↦ subst (λ w. Contains (x ∷ insert_key order xs y) w) is (here x (insert_key order xs y))
        | inr later ↦ there x (insert_key order xs y) z (more later)
      ]

  stays : (y z : X) (xs : List X) → Contains xs z → Contains (insert_key order xs y) z
  stays y z [] has = absurd (no_member z has)
  stays y z (x ∷ xs) has = stays_at (order y x) x y z xs (stays y z xs) has

  from_inserted_at : (o : Ordering) (x y z : X) (xs : List X) → (Contains (insert_key order xs y) z → (y ≡ z) ⊎ Contains xs z) → Contains (match_ordering o (y ∷ x ∷ xs) (x ∷ xs) (x ∷ insert_key order xs y)) z → (y ≡ z) ⊎ Contains (x ∷ xs) z
  from_inserted_at Less x y z xs more has = at_first y z (x ∷ xs) has
  from_inserted_at Equal x y z xs more has = inr has
  from_inserted_at Greater x y z xs more has =
      elim (at_first x z (insert_key order xs y) has) [
        | inl is ↦ inr (subst (λ w. Contains (x ∷ xs) w) is (here x xs))
        | inr later ↦ elim (more later) [ inl is ↦ inl is | inr older ↦ inr (there x xs z older) ]
      ]

  from_inserted : (y z : X) (xs : List X) → Contains (insert_key order xs y) z → (y ≡ z) ⊎ Contains xs z
  from_inserted y z [] has = at_first y z [] has
  from_inserted y z (x ∷ xs) has = from_inserted_at (order y x) x y z xs (from_inserted y z xs) has

  stays_put : (xs ys : List X) (z : X) → Contains xs z → Contains (put_in order xs ys) z
  stays_put xs [] z has = has
  stays_put xs (y ∷ ys) z has = stays_put (insert_key order xs y) ys z (stays y z xs has)

  put : (xs ys : List X) (z : X) → Contains ys z → Contains (put_in order xs ys) z
  put xs [] z has = absurd (no_member z has)
  put xs (y ∷ ys) z has =
      elim (at_first y z ys has) [
        | inl is ↦ stays_put (insert_key order xs y) ys z (subst (λ w. Contains (insert_key order xs y) w) is (inserted y xs))
        | inr later ↦ put (insert_key order xs y) ys z later
      ]

  from_put : (xs ys : List X) (z : X) → Contains (put_in order xs ys) z → Contains xs z ⊎ Contains ys z
  from_put xs [] z has = inl has
  from_put xs (y ∷ ys) z has =
      elim (from_put (insert_key order xs y) ys z has) [
        | inl old ↦ elim (from_inserted y z xs old) [ inl is ↦ inr (subst (λ w. Contains (y ∷ ys) w) is (here y ys)) | inr older ↦ inl older ]
        | inr later ↦ inr (there y ys z later)
      ]

  pub in_sorted : (xs : List X) (x : X) → Contains xs x → Contains (sorted order xs) x
  in_sorted xs x has = put [] xs x has

  pub from_sorted : (xs : List X) (x : X) → Contains (sorted order xs) x → Contains xs x
  from_sorted xs x has = elim (from_put [] xs x has) [ inl none ↦ absurd (no_member x none) | inr own ↦ own ]
