-- Keys that stand in order are the keys of their set.
use Rattle.std.proofs.Common.{◌≡◌, List, [], ◌∷◌, ◌++◌, refl, sym, ap, ◌∙◌, subst, append_assoc, append-nil, Ordering}
use Rattle.std.specs.declared.cmp.Ordering.TheVariants.{Less, Equal, Greater}
use Rattle.std.specs.BTreeSet.{insert_key}
use Rattle.std.specs.Cmp.{IsTotalOrder}
use Rattle.std.specs.Ordering.{match_ordering, ordering_reverse}
use Rattle.xc_keys.specs.Keys.{key_cmp}
use Rattle.xc_keys.proofs.KeyLemmas.{key_total}
use Rattle.book_fates.specs.config_assembly.Orders.{put_in, sorted}
use Rattle.book_fates.specs.config_assembly.Reach.{keys_with, reached_clusters}
use Rattle.driver_step.specs.DriverSteps.{ReachedKeysRise}

module _ {X : Type 0} (order : X → X → Ordering) (total : IsTotalOrder order) where
  -- each member stands below those of a list
  abbrev pub Below : X → List X → Type 0
  Below x [] = Unit {0}
  Below x (y ∷ ys) = (order x y ≡ Less) × Below x ys

  abbrev pub Rises : List X → Type 0
  Rises [] = Unit {0}
  Rises (x ∷ xs) = Below x xs × Rises xs

  reversed : (x y : X) → order y x ≡ Greater → order x y ≡ Less
  reversed x y is = total.antisymm x y ∙ ap ordering_reverse is

  below_more : (x y : X) (ys : List X) → order x y ≡ Less → Below y ys → Below x ys
  below_more x y [] less below = tt
  below_more x y (z ∷ ys) less (first, rest) = (total.trans x y z less first, below_more x y ys less rest)

  below_at : (o : Ordering) (x y z : X) (ys : List X) → order x y ≡ Less → order x z ≡ Less → Below x ys → Below x (insert_key order ys z) → Below x (match_ordering o (z ∷ y ∷ ys) (y ∷ ys) (y ∷ insert_key order ys z))
  below_at Less x y z ys first new rest more = (new, (first, rest))
  below_at Equal x y z ys first new rest more = (first, rest)
  below_at Greater x y z ys first new rest more = (first, more)

  below_inserted : (x z : X) (ys : List X) → order x z ≡ Less → Below x ys → Below x (insert_key order ys z)
  below_inserted x z [] new below = (new, tt)
  below_inserted x z (y ∷ ys) new (first, rest) = below_at (order z y) x y z ys first new rest (below_inserted x z ys new rest)

  rises_at : (o : Ordering) (y z : X) (ys : List X) → order z y ≡ o → Below y ys → Rises ys → Rises (insert_key order ys z) → Rises (match_ordering o (z ∷ y ∷ ys) (y ∷ ys) (y ∷ insert_key order ys z))
  rises_at Less y z ys is below rises more = ((is, below_more z y ys is below), (below, rises))
  rises_at Equal y z ys is below rises more = (below, rises)
  rises_at Greater y z ys is below rises more = (below_inserted y z ys (reversed y z is) below, more)

  rises_inserted : (z : X) (ys : List X) → Rises ys → Rises (insert_key order ys z)
  rises_inserted z [] rises = (tt, tt)
  rises_inserted z (y ∷ ys) (below, rises) = rises_at (order z y) y z ys refl below rises (rises_inserted z ys rises)

  rises_put : (xs ys : List X) → Rises xs → Rises (put_in order xs ys)
  rises_put xs [] rises = rises
  rises_put xs (y ∷ ys) rises = rises_put (insert_key order xs y) ys (rises_inserted y xs rises)

  -- a member that stands behind all others is put at the end
  put_behind : (x z : X) (xs : List X) → Rises ((x ∷ xs) ++ z ∷ []) → order x z ≡ Less
  put_behind x z [] ((less, tt), rises) = less
  put_behind x z (y ∷ xs) ((less, below), rises) = total.trans x y z less (put_behind y z xs rises)

  at_end : (x z : X) (xs : List X) → order x z ≡ Less → insert_key order (x ∷ xs) z ≡ x ∷ insert_key order xs z
  at_end x z xs less = ap (λ o. match_ordering o (z ∷ x ∷ xs) (x ∷ xs) (x ∷ insert_key order xs z)) (total.antisymm z x ∙ ap ordering_reverse less)

  inserted_behind : (z : X) (xs : List X) → Rises (xs ++ z ∷ []) → insert_key order xs z ≡ xs ++ z ∷ []
  inserted_behind z [] rises = refl
  inserted_behind z (x ∷ xs) rises = at_end x z xs (put_behind x z xs rises) ∙ ap (λ ys. x ∷ ys) (inserted_behind z xs rises.1)

  below_front : (x : X) (xs ys : List X) → Below x (xs ++ ys) → Below x xs
  below_front x [] ys below = tt
  below_front x (y ∷ xs) ys (less, below) = (less, below_front x xs ys below)

  rises_front : (xs ys : List X) → Rises (xs ++ ys) → Rises xs
  rises_front [] ys rises = tt
  rises_front (x ∷ xs) ys (below, rises) = (below_front x xs ys below, rises_front xs ys rises)

  put_all : (xs ys : List X) → Rises (xs ++ ys) → put_in order xs ys ≡ xs ++ ys
  put_all xs [] rises = sym (append-nil xs)
  put_all xs (y ∷ ys) rises =
      let same : (xs ++ y ∷ []) ++ ys ≡ xs ++ y ∷ ys = append_assoc xs (y ∷ []) ys in
      let more : Rises ((xs ++ y ∷ []) ++ ys) = subst Rises (sym same) rises in
      ap (λ zs. put_in order zs ys) (inserted_behind y xs (rises_front (xs ++ y ∷ []) ys more)) ∙ put_all (xs ++ y ∷ []) ys more ∙ same

  pub sorted_again : (xs : List X) → sorted order (sorted order xs) ≡ sorted order xs
  sorted_again xs = put_all [] (sorted order xs) (rises_put [] xs tt)

-- what is reached stands in order
pub reached_keys_rise : ReachedKeysRise
reached_keys_rise r references reached is =
    ap (sorted key_cmp) is ∙ sorted_again key_cmp key_total (keys_with r (reached_clusters r references)) ∙ sym is
