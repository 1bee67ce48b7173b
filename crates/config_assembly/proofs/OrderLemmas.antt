-- Lists in order.
use Rattle.std.proofs.Common.{◌≡◌, ℕ, suc, ◌+◌, ◌-◌, ◌<◌, refl, sym, ap, ◌∙◌, arith, List, [], ◌∷◌, ◌++◌, length, get_or, drop, Bool, true, false, ◌||◌, Ordering}
use Rattle.std.specs.List.{flat_map, list_any}
use Rattle.std.proofs.lemmas.List.{drop_more}
use Rattle.std.specs.BTreeSet.{insert_key}
use Rattle.std.specs.declared.cmp.Ordering.TheVariants.{Less, Equal, Greater}
use Rattle.std.specs.Ordering.{match_ordering}
use Rattle.std.proofs.lemmas.Map.Lookups.{CmpEqualImpliesEq}
use Rattle.xc_base.specs.declared.names.Key.{Key}
use Rattle.xc_keys.specs.Keys.{key_cmp}
use Rattle.xc_keys.proofs.KeyLemmas.{derived_cmp, derived_is}
use Rattle.aggregate_expand.specs.Chains.{Table}
use Rattle.config_assembly.specs.Orders.{Name, name_cmp, put_in, sorted}
use Rattle.config_assembly.specs.Reach.{children_among, on_chains}

pub put_append : {X : Type 0} (order : X → X → Ordering) (xs ys zs : List X) → put_in order (put_in order xs ys) zs ≡ put_in order xs (ys ++ zs)
put_append order xs [] zs = refl
put_append order xs (y ∷ ys) zs = put_append order (insert_key order xs y) ys zs

-- the order that the type has puts a key at the same place
pub put_alike : (keys : List Key) (key : Key) → insert_key derived_cmp keys key ≡ insert_key key_cmp keys key
put_alike [] key = refl
put_alike (k ∷ keys) key =
    ap (λ o. match_ordering o (key ∷ k ∷ keys) (k ∷ keys) (k ∷ insert_key derived_cmp keys key)) (derived_is key k)
    ∙ ap (λ rest. match_ordering (key_cmp key k) (key ∷ k ∷ keys) (k ∷ keys) (k ∷ rest)) (put_alike keys key)

-- one more of a list whose members put several in
pub put_next : {A X : Type 0} (order : X → X → Ordering) (f : A → List X) (items : List A) (i : ℕ) (item : A) (before now rest : List X) →
    i < length items → item ≡ get_or items i item → now ≡ put_in order before (f item) → put_in order before (flat_map f (drop i items)) ≡ rest → put_in order now (flat_map f (drop (i + 1) items)) ≡ rest
put_next order f items i item before now rest lt is grown kept =
    ap (λ xs. put_in order xs (flat_map f (drop (i + 1) items))) grown
    ∙ put_append order before (f item) (flat_map f (drop (i + 1) items))
    ∙ ap (λ y. put_in order before (f y ++ flat_map f (drop (i + 1) items))) is
    ∙ ap (λ ys. put_in order before (flat_map f ys)) (sym (drop_more items i item lt))
    ∙ kept

-- one level more
pub put_level : (table : Table) (i : ℕ) (before now level next names : List Name) →
    i < 16 → now ≡ put_in name_cmp before level → next ≡ sorted name_cmp (flat_map (children_among table) level) →
    put_in name_cmp before (on_chains table (16 - i) level) ≡ names → put_in name_cmp now (on_chains table (16 - (i + 1)) next) ≡ names
put_level table i before now level next names lt grown below kept =
    let one : 16 - i ≡ suc (16 - (i + 1)) = omega (arith, lt) in
    ap (λ xs. put_in name_cmp xs (on_chains table (16 - (i + 1)) next)) grown
    ∙ ap (λ xs. put_in name_cmp (put_in name_cmp before level) (on_chains table (16 - (i + 1)) xs)) below
    ∙ put_append name_cmp before level (on_chains table (16 - (i + 1)) (sorted name_cmp (flat_map (children_among table) level)))
    ∙ ap (λ n. put_in name_cmp before (on_chains table n level)) (sym one)
    ∙ kept

-- two lists put in, one after the other
pub put_two : {X : Type 0} (order : X → X → Ordering) (none one two xs ys : List X) → none ≡ [] → one ≡ put_in order none xs → two ≡ put_in order one ys → two ≡ sorted order (xs ++ ys)
put_two order none one two xs ys empty first second =
    second ∙ ap (λ l. put_in order l ys) (first ∙ ap (λ l. put_in order l xs) empty) ∙ put_append order [] xs ys

-- a member and three lists
pub put_four : {X : Type 0} (order : X → X → Ordering) (x y : X) (none one two three four xs ys zs : List X) → x ≡ y → none ≡ [] → one ≡ put_in order none (x ∷ []) → two ≡ put_in order one xs → three ≡ put_in order two ys → four ≡ put_in order three zs
    → four ≡ sorted order (y ∷ (xs ++ (ys ++ zs)))
put_four order x y none one two three four xs ys zs same empty first second third fourth =
    fourth ∙ ap (λ l. put_in order l zs) third ∙ put_append order two ys zs ∙ ap (λ l. put_in order l (ys ++ zs)) second ∙ put_append order one xs (ys ++ zs)
    ∙ ap (λ l. put_in order l (xs ++ (ys ++ zs))) (first ∙ ap (λ l. put_in order l (x ∷ [])) empty ∙ ap (λ k. put_in order [] (k ∷ [])) same)

-- ---- what is among them

module _ {X : Type 0} (order : X → X → Ordering) (exact : CmpEqualImpliesEq order) (test : X → Bool) where
  by_order : (o : Ordering) (x y : X) (ys rest : List X) → order x y ≡ o → list_any test rest ≡ (test x || list_any test ys) → list_any test (match_ordering o (x ∷ y ∷ ys) (y ∷ ys) (y ∷ rest)) ≡ (test x || list_any test (y ∷ ys))
  by_order Less x y ys rest e more = refl
  by_order Equal x y ys rest e more = ap (λ z. test z || list_any test ys) (sym (exact x y e)) ∙ again (test x) (list_any test ys) ∙ ap (λ z. test x || (test z || list_any test ys)) (exact x y e)
    where
      again : (a b : Bool) → (a || b) ≡ (a || (a || b))
      again true b = refl
      again false b = refl
  by_order Greater x y ys rest e more = ap (λ b. test y || b) more ∙ swapped (test y) (test x) (list_any test ys)
    where
      swapped : (a b c : Bool) → (a || (b || c)) ≡ (b || (a || c))
      swapped true true c = refl
      swapped true false c = refl
      swapped false b c = refl

  -- the member that is put in, and those that were there
  pub any_put : (xs : List X) (x : X) → list_any test (insert_key order xs x) ≡ (test x || list_any test xs)
  any_put [] x = refl
  any_put (y ∷ xs) x = by_order (order x y) x y xs (insert_key order xs x) refl (any_put xs x)

  any_all : (xs more : List X) → list_any test (put_in order xs more) ≡ (list_any test xs || list_any test more)
  any_all xs [] = or_none (list_any test xs)
    where
      or_none : (b : Bool) → b ≡ (b || false)
      or_none true = refl
      or_none false = refl
  any_all xs (x ∷ more) =
      any_all (insert_key order xs x) more ∙ ap (λ b. b || list_any test more) (any_put xs x) ∙ swapped (test x) (list_any test xs) (list_any test more)
    where
      swapped : (a b c : Bool) → ((a || b) || c) ≡ (b || (a || c))
      swapped true true c = refl
      swapped true false c = refl
      swapped false b c = refl

  -- a list in order has the same members
  pub any_sorted : (xs : List X) → list_any test (sorted order xs) ≡ list_any test xs
  any_sorted xs = any_all [] xs
