-- Counts of places with one place more.
use Rattle.std.proofs.Common.{◌≡◌, ℕ, zero, suc, ◌+◌, ◌<◌, Bool, true, false, cond, List, [], ◌∷◌, ◌++◌, length, get_or, refl, sym, ap, ◌∙◌, arith, Option, Some, None, Ordering}
use Rattle.std.specs.declared.cmp.Ordering.TheVariants.{Less, Equal, Greater}
use Rattle.std.specs.Option.{option_map_or}
use Rattle.std.specs.Ordering.{is_eq, nat_cmp, ordering_then}
use Rattle.std.specs.Cmp.{IsTotalOrder, IsEquivalence}
use Rattle.std.specs.Cmp.Lexicographic.{slice_cmp}
use Rattle.std.proofs.lemmas.Cmp.{nat_cmp_total, nat_list_cmp_total, on_total, then_total, eq_by_cmp_equiv}
use Rattle.std.proofs.lemmas.Map.Lookups.{exact_unsigned, exact_bytes}
use Rattle.std.proofs.Math.ListN.{length-append}
use Rattle.std.proofs.Math.Seq.{get_or-append_seam}
use Rattle.book_picks.specs.declared.place_counts.PlaceKey.{PlaceKey}
use Rattle.book_picks.specs.declared.place_counts.PlaceCounts.{PlaceCounts}
use Rattle.book_picks.specs.CountedPlaces.{place_cmp, is_place, index_of, count_at, count_of, AreNumbered, Extends}

-- ---- the order of places tells them apart

place_total : IsTotalOrder place_cmp
place_total = then_total (on_total (λ p. p.cluster) nat_list_cmp_total) (then_total (on_total (λ p. p.leaf) nat_list_cmp_total) (then_total (on_total (λ p. p.priority) nat_cmp_total)
    (then_total (on_total (λ p. p.region) nat_list_cmp_total) (then_total (on_total (λ p. p.zone) nat_list_cmp_total) (on_total (λ p. p.sub_zone) nat_list_cmp_total)))))

pub is_place_equiv : IsEquivalence is_place
is_place_equiv = eq_by_cmp_equiv place_total

equal_from_is_eq : (o : Ordering) → is_eq o ≡ true → o ≡ Equal
equal_from_is_eq Less is = cc
equal_from_is_eq Equal is = refl
equal_from_is_eq Greater is = cc

both_equal : (o p : Ordering) → ordering_then o p ≡ Equal → (o ≡ Equal) × (p ≡ Equal)
both_equal Less p is = cc
both_equal Equal p is = (refl, is)
both_equal Greater p is = cc

-- places with equal parts are equal
pub same_parts : (a b : PlaceKey) → a.cluster ≡ b.cluster → a.leaf ≡ b.leaf → a.priority ≡ b.priority → a.region ≡ b.region → a.zone ≡ b.zone → a.sub_zone ≡ b.sub_zone → a ≡ b
same_parts a b clusters leaves priorities regions zones sub_zones =
    let make : List ℕ → List ℕ → ℕ → List ℕ → List ℕ → List ℕ → PlaceKey = λ c l p r z s. record { cluster = c; leaf = l; priority = p; region = r; zone = z; sub_zone = s } in
    ap (λ c. make c a.leaf a.priority a.region a.zone a.sub_zone) clusters ∙ ap (λ l. make b.cluster l a.priority a.region a.zone a.sub_zone) leaves
    ∙ ap (λ p. make b.cluster b.leaf p a.region a.zone a.sub_zone) priorities ∙ ap (λ r. make b.cluster b.leaf b.priority r a.zone a.sub_zone) regions
    ∙ ap (λ z. make b.cluster b.leaf b.priority b.region z a.sub_zone) zones ∙ ap (λ s. make b.cluster b.leaf b.priority b.region b.zone s) sub_zones

-- places that are told to be one are equal
pub one_place : (a b : PlaceKey) → is_place a b ≡ true → a ≡ b
one_place a b is =
    let (clusters, one) = both_equal (slice_cmp nat_cmp a.cluster b.cluster) _ (equal_from_is_eq (place_cmp a b) is) in
    let (leaves, two) = both_equal (slice_cmp nat_cmp a.leaf b.leaf) _ one in
    let (priorities, three) = both_equal (nat_cmp a.priority b.priority) _ two in
    let (regions, four) = both_equal (slice_cmp nat_cmp a.region b.region) _ three in
    let (zones, sub_zones) = both_equal (slice_cmp nat_cmp a.zone b.zone) _ four in
    same_parts a b (exact_bytes a.cluster b.cluster clusters) (exact_bytes a.leaf b.leaf leaves) (exact_unsigned a.priority b.priority priorities)
    (exact_bytes a.region b.region regions) (exact_bytes a.zone b.zone zones) (exact_bytes a.sub_zone b.sub_zone sub_zones)

-- ---- one place more

-- the counts have one more at their end, at which a new place has its index
pub record IsAdded (old new : PlaceCounts) (place : PlaceKey) : Type 0 where
  pub absent : index_of old place ≡ None
  pub counts : new.counts.items ≡ old.counts.items ++ 0 ∷ []
  pub indexes : (other : PlaceKey) → index_of new other ≡ cond (is_place place other) (Some (length old.counts.items)) (index_of old other)

-- a count at the end is no more than what is read beyond it
past_end : (xs : List ℕ) (i : ℕ) → get_or (xs ++ 0 ∷ []) i 0 ≡ get_or xs i 0
past_end [] zero = refl
past_end [] (suc i) = refl
past_end (x ∷ xs) zero = refl
past_end (x ∷ xs) (suc i) = past_end xs i

kept_count : (xs : List ℕ) (index : Option ℕ) → option_map_or (λ i. get_or (xs ++ 0 ∷ []) i 0) index 0 ≡ option_map_or (λ i. get_or xs i 0) index 0
kept_count xs None = refl
kept_count xs (Some i) = past_end xs i

module _ (old new : PlaceCounts) (place : PlaceKey) (added : IsAdded old new place) where
  still_there : (b : Bool) (other : PlaceKey) (i : ℕ) → is_place place other ≡ b → index_of old other ≡ Some i → cond b (Some (length old.counts.items)) (index_of old other) ≡ Some i
  still_there true other i is at = let none : index_of old other ≡ None = ap (index_of old) (sym (one_place place other is)) ∙ added.absent in cc
  still_there false other i is at = at

  still_counted : (b : Bool) (other : PlaceKey) → is_place place other ≡ b →
      option_map_or (λ i. get_or (old.counts.items ++ 0 ∷ []) i 0) (cond b (Some (length old.counts.items)) (index_of old other)) 0 ≡ count_of old other
  still_counted true other is =
      get_or-append_seam old.counts.items 0 [] 0 ∙ sym (ap (λ o. count_at old o) (ap (index_of old) (sym (one_place place other is)) ∙ added.absent))
  still_counted false other is = kept_count old.counts.items (index_of old other)

  more : length new.counts.items ≡ length old.counts.items + 1
  more = ap (λ xs. length xs) added.counts ∙ length-append old.counts.items (0 ∷ [])

  is_within : (b : Bool) (other : PlaceKey) (i : ℕ) → AreNumbered old → cond b (Some (length old.counts.items)) (index_of old other) ≡ Some i → i < length new.counts.items
  is_within true other i numbered at = let e : length old.counts.items ≡ i = cc in let m = more in omega arith
  is_within false other i numbered at = let less = numbered.within other i at in let m = more in omega arith

  are_apart : (b d : Bool) (one other : PlaceKey) (i : ℕ) → AreNumbered old → is_place place one ≡ b → is_place place other ≡ d →
      cond b (Some (length old.counts.items)) (index_of old one) ≡ Some i → cond d (Some (length old.counts.items)) (index_of old other) ≡ Some i → one ≡ other
  are_apart true true one other i numbered is also at at_other = sym (one_place place one is) ∙ one_place place other also
  are_apart true false one other i numbered is also at at_other =
      let e : length old.counts.items ≡ i = cc in let less = numbered.within other i at_other in absurd (omega arith)
  are_apart false true one other i numbered is also at at_other =
      let e : length old.counts.items ≡ i = cc in let less = numbered.within one i at in absurd (omega arith)
  are_apart false false one other i numbered is also at at_other = numbered.apart one other i at at_other

  pub extends : Extends old new
  extends = record {
    indexes = λ other i at. added.indexes other ∙ still_there (is_place place other) other i refl at;
    counts = λ other.
        ap (λ xs. option_map_or (λ i. get_or xs i 0) (index_of new other) 0) added.counts
        ∙ ap (λ o. option_map_or (λ i. get_or (old.counts.items ++ 0 ∷ []) i 0) o 0) (added.indexes other)
        ∙ still_counted (is_place place other) other refl;
    numbered = λ numbered. record {
      within = λ other i at. is_within (is_place place other) other i numbered (sym (added.indexes other) ∙ at);
      apart = λ one other i at at_other.
          are_apart (is_place place one) (is_place place other) one other i numbered refl refl (sym (added.indexes one) ∙ at) (sym (added.indexes other) ∙ at_other);
    };
  }

-- ---- one extension after another

pub extends_not : (counts : PlaceCounts) → Extends counts counts
extends_not counts = record { indexes = λ place i at. at; counts = λ place. refl; numbered = λ numbered. numbered }

pub extends_on : (a b c : PlaceCounts) → Extends a b → Extends b c → Extends a c
extends_on a b c one two = record {
  indexes = λ place i at. two.indexes place i (one.indexes place i at);
  counts = λ place. two.counts place ∙ one.counts place;
  numbered = λ numbered. two.numbered (one.numbered numbered);
}
