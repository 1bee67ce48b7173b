-- Addresses in order with their counts, one more on.
use Rattle.std.proofs.Common.{◌≡◌, ℕ, ◌+◌, List, [], ◌∷◌, ◌++◌, map, filter, length, Bool, true, false, cond, ◌||◌, Some, refl, sym, ap, ◌∙◌, subst, arith, unwrap_or, Ordering, if◌then◌else◌}
use Rattle.std.specs.declared.cmp.Ordering.TheVariants.{Less, Equal, Greater}
use Rattle.std.specs.BTreeMap.{insert_entry, is_at}
use Rattle.std.specs.BTreeSet.{insert_key}
use Rattle.std.specs.List.{AllByRecursion, list_any}
use Rattle.std.specs.List.Sorted.{IsStrictlySortedBy}
use Rattle.std.specs.Map.{lookup}
use Rattle.std.specs.Ordering.{is_eq, match_ordering}
use Rattle.std.specs.Str.{bytes_eq}
use Rattle.std.proofs.lemmas.Cmp.{nat_list_cmp_total, tied_itself}
use Rattle.std.proofs.lemmas.List.{length-append}
use Rattle.std.proofs.lemmas.List.Elements.{filter-append}
use Rattle.std.proofs.lemmas.Map.Lookups.{exact_bytes}
use Rattle.std.proofs.lemmas.Map.Text.{is_eq-slice_cmp}
use Rattle.std.proofs.lemmas.Slice.Eq.{bytes_eq-Decides}
use Rattle.config_assembly.specs.Orders.{Name, name_cmp, sorted}
use Rattle.config_assembly.proofs.OrderLemmas.{any_sorted, put_append}
use Rattle.config_assembly.proofs.SortedLists.{all_above, sorted_rises}
use Rattle.totals_writer.specs.Totals.{counted, one_if, times}
use Rattle.totals_writer.specs.Tallying.{count_of}

-- ---- times

same_from_order : (a b : Name) → is_eq (name_cmp a b) ≡ true → a ≡ b
same_from_order a b is = (bytes_eq-Decides a b).0 (sym (is_eq-slice_cmp a b) ∙ is)

filtered_one : (p : Name → Bool) (b : Bool) (a : Name) → p a ≡ b → length (filter p (a ∷ [])) ≡ one_if b
filtered_one p b a is = ap (λ c. length (if c then a ∷ [] else [])) is ∙ either b
  where
    either : (b : Bool) → length (if b then a ∷ [] else []) ≡ one_if b
    either true = refl
    either false = refl

pub times_more : (address a : Name) (given : List Name) → times address (given ++ a ∷ []) ≡ times address given + one_if (bytes_eq address a)
times_more address a given =
    ap length (filter-append (bytes_eq address) given (a ∷ []))
    ∙ length-append (filter (bytes_eq address) given) (filter (bytes_eq address) (a ∷ []))
    ∙ ap (λ n. times address given + n) (filtered_one (bytes_eq address) (bytes_eq address a) a refl)

times_own : (a : Name) (given : List Name) → times a (given ++ a ∷ []) ≡ times a given + 1
times_own a given = times_more a a given ∙ ap (λ b. times a given + one_if b) ((bytes_eq-Decides a a).1 refl)

other_by : (b : Bool) (address a : Name) (n : ℕ) → (address ≡ a → ⊥) → bytes_eq address a ≡ b → n + one_if b ≡ n
other_by true address a n other is = absurd (other ((bytes_eq-Decides address a).0 is))
other_by false address a n other is = omega arith

times_other : (address a : Name) (given : List Name) → (address ≡ a → ⊥) → times address (given ++ a ∷ []) ≡ times address given
times_other address a given other = times_more address a given ∙ other_by (bytes_eq address a) address a (times address given) other refl

-- ---- a count is kept of each address that was given

abbrev with_counts : (Name → ℕ) → List Name → List (Name × ℕ)
with_counts f names = map (λ name. (name, f name)) names

found_by : (b : Bool) (a x : Name) (f : Name → ℕ) (xs : List Name) → is_at (name_cmp a) x ≡ b → (list_any (is_at (name_cmp a)) xs ≡ true → count_of (with_counts f xs) a ≡ f a)
    → (b || list_any (is_at (name_cmp a)) xs) ≡ true → unwrap_or (cond b (Some (f x)) (lookup (is_at (name_cmp a)) (with_counts f xs))) 0 ≡ f a
found_by true a x f xs is older has = ap f (sym (same_from_order a x is))
found_by false a x f xs is older has = older has

found : (a : Name) (f : Name → ℕ) (xs : List Name) → list_any (is_at (name_cmp a)) xs ≡ true → count_of (with_counts f xs) a ≡ f a
found a f [] has = absurd (cc has)
found a f (x ∷ xs) has = found_by (is_at (name_cmp a) x) a x f xs refl (found a f xs) has

missed_by : (b : Bool) (a x : Name) (f : Name → ℕ) (xs : List Name) → (list_any (is_at (name_cmp a)) xs ≡ false → count_of (with_counts f xs) a ≡ 0)
    → (b || list_any (is_at (name_cmp a)) xs) ≡ false → unwrap_or (cond b (Some (f x)) (lookup (is_at (name_cmp a)) (with_counts f xs))) 0 ≡ 0
missed_by true a x f xs older none = absurd (cc none)
missed_by false a x f xs older none = older none

missed : (a : Name) (f : Name → ℕ) (xs : List Name) → list_any (is_at (name_cmp a)) xs ≡ false → count_of (with_counts f xs) a ≡ 0
missed a f [] none = refl
missed a f (x ∷ xs) none = missed_by (is_at (name_cmp a) x) a x f xs (missed a f xs) none

never_by : (b : Bool) (a x : Name) (xs : List Name) → bytes_eq a x ≡ b → (list_any (is_at (name_cmp a)) xs ≡ false → times a xs ≡ 0) → (b || list_any (is_at (name_cmp a)) xs) ≡ false → length (if b then x ∷ filter (bytes_eq a) xs else filter (bytes_eq a) xs) ≡ 0
never_by true a x xs is older none = absurd (cc none)
never_by false a x xs is older none = older none

never : (a : Name) (xs : List Name) → list_any (is_at (name_cmp a)) xs ≡ false → times a xs ≡ 0
never a [] none = refl
never a (x ∷ xs) none = never_by (bytes_eq a x) a x xs refl (never a xs) (ap (λ b. b || list_any (is_at (name_cmp a)) xs) (sym (is_eq-slice_cmp a x)) ∙ none)

counted_by : (b : Bool) (a : Name) (given : List Name) → list_any (is_at (name_cmp a)) (sorted name_cmp given) ≡ b → count_of (counted given) a ≡ times a given
counted_by true a given has = found a (λ name. times name given) (sorted name_cmp given) has
counted_by false a given none =
    missed a (λ name. times name given) (sorted name_cmp given) none
    ∙ sym (never a given (sym (any_sorted name_cmp exact_bytes (is_at (name_cmp a)) given) ∙ none))

pub count_counted : (a : Name) (given : List Name) → count_of (counted given) a ≡ times a given
count_counted a given = counted_by (list_any (is_at (name_cmp a)) (sorted name_cmp given)) a given refl

-- ---- one more

module _ (f g : Name → ℕ) (a : Name) (own : g a ≡ f a + 1) (other : (name : Name) → (name ≡ a → ⊥) → g name ≡ f name) where
  above : (xs : List Name) → AllByRecursion (λ x. name_cmp a x ≡ Less) xs → with_counts f xs ≡ with_counts g xs
  above [] all = refl
  above (x ∷ xs) all =
      let apart : x ≡ a → ⊥ = λ is. let tied : name_cmp a x ≡ Equal = ap (name_cmp a) is ∙ tied_itself nat_list_cmp_total a in let less : name_cmp a x ≡ Less = all.0 in absurd (cc (tied, less)) in
      let first : f x ≡ g x = sym (other x apart) in
      let rest : with_counts f xs ≡ with_counts g xs = above xs all.1 in
      cc (first, rest)

  put_at : (o : Ordering) (x : Name) (xs : List Name) → name_cmp a x ≡ o → AllByRecursion (λ y. name_cmp x y ≡ Less) xs → insert_entry name_cmp (with_counts f xs) a (f a + 1) ≡ with_counts g (insert_key name_cmp xs a)
      → match_ordering o ((a, f a + 1) ∷ (x, f x) ∷ with_counts f xs) ((x, f a + 1) ∷ with_counts f xs) ((x, f x) ∷ insert_entry name_cmp (with_counts f xs) a (f a + 1)) ≡ with_counts g (match_ordering o (a ∷ x ∷ xs) (x ∷ xs) (x ∷ insert_key name_cmp xs a))
  put_at Less x xs is all older =
      let rest : with_counts f (x ∷ xs) ≡ with_counts g (x ∷ xs) = above (x ∷ xs) (is, all_above name_cmp nat_list_cmp_total a x xs is all) in
      cc (own, rest)
  put_at Equal x xs is all older =
      let same : a ≡ x = exact_bytes a x is in
      let count : f a + 1 ≡ g x = sym own ∙ ap g same in
      let rest : with_counts f xs ≡ with_counts g xs = above xs (subst (λ k. AllByRecursion (λ y. name_cmp k y ≡ Less) xs) (sym same) all) in
      cc (count, rest)
  put_at Greater x xs is all older =
      let apart : x ≡ a → ⊥ = λ same. let tied : name_cmp a x ≡ Equal = ap (name_cmp a) same ∙ tied_itself nat_list_cmp_total a in absurd (cc (tied, is)) in
      let first : f x ≡ g x = sym (other x apart) in
      cc (first, older)

  put : (xs : List Name) → IsStrictlySortedBy name_cmp xs → insert_entry name_cmp (with_counts f xs) a (f a + 1) ≡ with_counts g (insert_key name_cmp xs a)
  unfolding IsStrictlySortedBy
  put [] rises = let count : f a + 1 ≡ g a = sym own in cc count
  put (x ∷ xs) rises = put_at (name_cmp a x) x xs refl rises.0 (put xs rises.1)

pub counted_more : (a : Name) (given : List Name) → insert_entry name_cmp (counted given) a (count_of (counted given) a + 1) ≡ counted (given ++ a ∷ [])
counted_more a given =
    ap (λ n. insert_entry name_cmp (counted given) a (n + 1)) (count_counted a given)
    ∙ put (λ name. times name given) (λ name. times name (given ++ a ∷ [])) a (times_own a given) (λ name apart. times_other name a given apart) (sorted name_cmp given) (sorted_rises name_cmp nat_list_cmp_total given)
    ∙ ap (λ names. map (λ name. (name, times name (given ++ a ∷ []))) names) (put_append name_cmp [] given (a ∷ []))
