-- Lists in order, each member once.
use Rattle.std.proofs.Common.{◌≡◌, Bool, List, [], ◌∷◌, refl, sym, ap, ◌∙◌, Ordering}
use Rattle.std.specs.declared.cmp.Ordering.TheVariants.{Less, Equal, Greater}
use Rattle.std.specs.BTreeSet.{insert_key}
use Rattle.std.specs.Cmp.{IsTotalOrder}
use Rattle.std.specs.List.{AllByRecursion, list_any}
use Rattle.std.specs.List.Sorted.{IsStrictlySortedBy}
use Rattle.std.specs.Ordering.{eq_by_cmp, match_ordering, ordering_reverse}
use Rattle.std.proofs.lemmas.Map.Lookups.{CmpEqualImpliesEq, btree_set_from_contains}
use Rattle.config_assembly.specs.Orders.{put_in, sorted}
use Rattle.config_assembly.proofs.OrderLemmas.{any_sorted}

-- ---- what is put in at its place leaves a list in order

module _ {X : Type 0} (order : X → X → Ordering) (total : IsTotalOrder order) where
  all_inserted_at : (P : X → Type 0) (o : Ordering) (k x : X) (xs more : List X) → P k → P x → AllByRecursion P xs → AllByRecursion P more → AllByRecursion P (match_ordering o (k ∷ x ∷ xs) (x ∷ xs) (x ∷ more))
  all_inserted_at P Less k x xs more own first all rest = (own, (first, all))
  all_inserted_at P Equal k x xs more own first all rest = (first, all)
  all_inserted_at P Greater k x xs more own first all rest = (first, rest)

  all_inserted : (P : X → Type 0) (xs : List X) (k : X) → P k → AllByRecursion P xs → AllByRecursion P (insert_key order xs k)
  all_inserted P [] k own all = (own, tt)
  all_inserted P (x ∷ xs) k own all = all_inserted_at P (order k x) k x xs (insert_key order xs k) own all.0 all.1 (all_inserted P xs k own all.1)

  pub all_above : (k x : X) (xs : List X) → order k x ≡ Less → AllByRecursion (λ y. order x y ≡ Less) xs → AllByRecursion (λ y. order k y ≡ Less) xs
  all_above k x [] less all = tt
  all_above k x (y ∷ xs) less all = (total.trans k x y less all.0, all_above k x xs less all.1)

  rises_at : (o : Ordering) (k x : X) (xs more : List X) → order k x ≡ o → AllByRecursion (λ y. order x y ≡ Less) xs → IsStrictlySortedBy order xs →
      (order x k ≡ Less → AllByRecursion (λ y. order x y ≡ Less) more) → IsStrictlySortedBy order more → IsStrictlySortedBy order (match_ordering o (k ∷ x ∷ xs) (x ∷ xs) (x ∷ more))
  unfolding IsStrictlySortedBy
  rises_at Less k x xs more is first rest above rises = ((is, all_above k x xs is first), (first, rest))
  rises_at Equal k x xs more is first rest above rises = (first, rest)
  rises_at Greater k x xs more is first rest above rises = (above (total.antisymm x k ∙ ap ordering_reverse is), rises)

  inserted_rises : (xs : List X) (k : X) → IsStrictlySortedBy order xs → IsStrictlySortedBy order (insert_key order xs k)
  unfolding IsStrictlySortedBy
  inserted_rises [] k rises = (tt, tt)
  inserted_rises (x ∷ xs) k rises =
      rises_at (order k x) k x xs (insert_key order xs k) refl rises.0 rises.1 (λ less. all_inserted (λ y. order x y ≡ Less) xs k less rises.0) (inserted_rises xs k rises.1)

  put_rises : (xs ys : List X) → IsStrictlySortedBy order xs → IsStrictlySortedBy order (put_in order xs ys)
  put_rises xs [] rises = rises
  put_rises xs (y ∷ ys) rises = put_rises (insert_key order xs y) ys (inserted_rises xs y rises)

  nothing_rises : IsStrictlySortedBy order []
  unfolding IsStrictlySortedBy
  nothing_rises = tt

  pub sorted_rises : (xs : List X) → IsStrictlySortedBy order (sorted order xs)
  sorted_rises xs = put_rises [] xs nothing_rises

  -- lists with the same members are the same in order
  pub sorted_same : CmpEqualImpliesEq order → (xs ys : List X) → ((x : X) → list_any (eq_by_cmp order x) xs ≡ list_any (eq_by_cmp order x) ys) → sorted order xs ≡ sorted order ys
  sorted_same exact xs ys alike =
      btree_set_from_contains total (record { keys = sorted order xs }) (record { keys = sorted order ys }) (sorted_rises xs) (sorted_rises ys)
      (λ x. any_sorted order exact (eq_by_cmp order x) xs ∙ alike x ∙ sym (any_sorted order exact (eq_by_cmp order x) ys))
      exact
