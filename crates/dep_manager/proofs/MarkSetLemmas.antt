-- Marks that are set in any order.
use Rattle.std.proofs.Common.{◌≡◌, ◌<◌, ◌≤◌, ◌+◌, ◌⊎◌, ℕ, zero, suc, Bool, true, false, ◌||◌, List, [], ◌∷◌, length, min, get_or, set, replicate, take, Ordering, eqb-true, inl, inr, refl, sym, ap, subst, ◌∙◌, arith}
use Rattle.std.specs.Prelude.{◌↔◌, ◌==◌, All, Contains}
use Rattle.std.specs.declared.cmp.Ordering.TheVariants.{Less, Equal, Greater}
use Rattle.std.specs.BTreeSet.{insert_key}
use Rattle.std.specs.Ordering.{match_ordering, nat_cmp}
use Rattle.std.proofs.lemmas.Bool.{cases_eq, cases_lt, true≢false}
use Rattle.std.proofs.lemmas.Cmp.{ranked}
use Rattle.std.proofs.lemmas.List.{ext_get_or, get_or-replicate, get_or-set_other, get_or-set_same, length-replicate, length-set}
use Rattle.std.proofs.lemmas.List.Elements.{All-head, All-tail}
use Rattle.std.proofs.lemmas.List.Folds.{list_any_at}
use Rattle.std.proofs.lemmas.Map.Lookups.{exact_unsigned}
use Rattle.xc_base.proofs.JoinLemmas.{eqb_refl}
use Rattle.place_marks.specs.Marks.{marked_on, marks_of}
use Rattle.place_marks.proofs.MarkLemmas.{length_marks}
use Rattle.dep_manager.specs.LeafPlaces.{has_place}
use Rattle.dep_manager.specs.RenewedConfigs.{joined_marks}
use Rattle.dep_manager.proofs.PairLemmas.{paired_at, paired_long}
use Rattle.dep_manager.proofs.PlaceLemmas.{any_next}

-- ---- tests

pub or_none : (b : Bool) → (b || false) ≡ b
or_none true = refl
or_none false = refl

or_true : (b : Bool) → (b || true) ≡ true
or_true true = refl
or_true false = refl

or_swap : (a b : Bool) → (a || b) ≡ (b || a)
or_swap true b = sym (or_true b)
or_swap false b = sym (or_none b)

or_assoc : (a b c : Bool) → ((a || b) || c) ≡ (a || (b || c))
or_assoc true b c = refl
or_assoc false b c = refl

absorbed : (a b : Bool) → (a || b) ≡ ((a || b) || a)
absorbed true b = refl
absorbed false b = sym (or_none b)

pub other_place : (place at : ℕ) → (at ≡ place → ⊥) → (place == at) ≡ false
other_place place at other = by (place == at) refl
  where
    by : (b : Bool) → (place == at) ≡ b → b ≡ false
    by true is = absurd (other (sym (eqb-true place at is)))
    by false is = refl

-- ---- places in a list

pub has_member : (places : List ℕ) (k d : ℕ) → k < length places → has_place places (get_or places k d) ≡ true
has_member places k d lt = list_any_at (λ other. other == get_or places k d) places k d lt (eqb_refl (get_or places k d))

pub member_at : (places : List ℕ) (at : ℕ) → has_place places at ≡ true → Contains places at
member_at [] at has = absurd (true≢false (sym has))
member_at (place ∷ places) at has = by (place == at) refl (λ more. member_at places at more)
  where
    by : (b : Bool) → (place == at) ≡ b → (has_place places at ≡ true → Contains places at) → Contains (place ∷ places) at
    by true is later = (0, omega arith, eqb-true place at is)
    by false is later =
        let among = later (sym (ap (λ b. b || has_place places at) is) ∙ has) in
        (suc among.0, omega (arith, among.1), among.2)

-- the places of the marks, where they are known one by one
pub has_marked : (marks : List Bool) (places : List ℕ) (at : ℕ) → ((get_or marks at false ≡ true) ↔ Contains places at) → has_place places at ≡ get_or marks at false
has_marked marks places at marked = by (has_place places at) (get_or marks at false) refl refl
  where
    by : (has is : Bool) → has_place places at ≡ has → get_or marks at false ≡ is → has ≡ is
    by true true one other = refl
    by false false one other = refl
    by true false one other = sym (marked.1 (member_at places at one)) ∙ other
    by false true one other =
        let among = marked.0 other in
        sym one ∙ (ap (has_place places) (sym among.2) ∙ has_member places among.0 at among.1)

-- ---- marks by the marked places

set_mark : (marks : List Bool) (place at : ℕ) → at < length marks → get_or (set marks place true) at false ≡ (get_or marks at false || (place == at))
set_mark marks place at lt = by (cases_eq at place)
  where
    by : (at ≡ place) ⊎ (at ≡ place → ⊥) → get_or (set marks place true) at false ≡ (get_or marks at false || (place == at))
    by (inl same) =
        ap (λ n. get_or (set marks n true) at false) (sym same)
        ∙ get_or-set_same marks at true false lt
        ∙ sym (ap (λ b. get_or marks at false || b) (ap (λ n. n == at) (sym same) ∙ eqb_refl at) ∙ or_true (get_or marks at false))
    by (inr other) = get_or-set_other marks place at true false other ∙ sym (ap (λ b. get_or marks at false || b) (other_place place at other) ∙ or_none (get_or marks at false))

marked_at : (marks : List Bool) (places : List ℕ) (at : ℕ) → at < length marks → get_or (marked_on marks places) at false ≡ (get_or marks at false || has_place places at)
marked_at marks [] at lt = sym (or_none (get_or marks at false))
marked_at marks (place ∷ places) at lt =
    marked_at (set marks place true) places at (subst (λ n. at < n) (sym (length-set marks place true)) lt)
    ∙ ap (λ b. b || has_place places at) (set_mark marks place at lt)
    ∙ or_assoc (get_or marks at false) (place == at) (has_place places at)

pub in_marks : (count : ℕ) (places : List ℕ) (at : ℕ) → at < count → get_or (marks_of count places) at false ≡ has_place places at
in_marks count places at lt =
    marked_at (replicate count false) places at (subst (λ n. at < n) (sym (length-replicate count false)) lt)
    ∙ ap (λ b. b || has_place places at) (get_or-replicate count at false false lt)

pub all_marks : (count : ℕ) (places : List ℕ) → ((at : ℕ) → at < count → has_place places at ≡ true) → marks_of count places ≡ replicate count true
all_marks count places all =
    ext_get_or false (marks_of count places) (replicate count true) (length_marks count places ∙ sym (length-replicate count true))
    (λ at lt. let within : at < count = subst (λ n. at < n) (length_marks count places) lt in in_marks count places at within ∙ all at within ∙ sym (get_or-replicate count at true false within))

pub marks_with : (count : ℕ) (before places more : List ℕ) (at : ℕ) → at < length (marks_of count before) → has_place places at ≡ (has_place before at || has_place more at) →
    get_or (marks_of count places) at false ≡ (get_or (marks_of count before) at false || has_place more at)
marks_with count before places more at lt have =
    let within : at < count = subst (λ n. at < n) (length_marks count before) lt in
    in_marks count places at within ∙ have ∙ ap (λ b. b || has_place more at) (sym (in_marks count before at within))

pub marks_joined : (own count least : ℕ) (before places more : List ℕ) (told : List Bool) → least ≡ min own count → count ≡ length told → ((at : ℕ) → has_place places at ≡ (has_place before at || has_place more at)) →
    ((at : ℕ) → (get_or told at false ≡ true) ↔ Contains more at) → marks_of least places ≡ joined_marks (marks_of own before) told
marks_joined own count least before places more told is long have marked =
    let longs : length (joined_marks (marks_of own before) told) ≡ min (length (marks_of own before)) (length told) = paired_long ◌||◌ (marks_of own before) told in
    let first = length_marks own before in
    let second = length_marks least places in
    ext_get_or false (marks_of least places) (joined_marks (marks_of own before) told) (omega (arith, longs, first, second, is, long))
    (λ at lt.
    let within : at < least = omega (arith, lt, second) in
    in_marks least places at within ∙ have at
    ∙ ap (λ b. b || has_place more at) (sym (in_marks own before at (omega (arith, within, is))))
    ∙ ap (λ b. get_or (marks_of own before) at false || b) (has_marked told more at (marked at))
    ∙ sym (paired_at ◌||◌ (marks_of own before) told at false false false (omega (arith, within, is, first)) (omega (arith, within, is, long))))

-- ---- a place more in a set

pub has_inserted : (places : List ℕ) (place at : ℕ) → has_place (insert_key nat_cmp places place) at ≡ (has_place places at || (place == at))
has_inserted [] place at = or_none (place == at)
has_inserted (x ∷ xs) place at = by (nat_cmp place x) refl (has_inserted xs place at)
  where
    by : (o : Ordering) → nat_cmp place x ≡ o → has_place (insert_key nat_cmp xs place) at ≡ (has_place xs at || (place == at)) →
        has_place (match_ordering o (place ∷ x ∷ xs) (x ∷ xs) (x ∷ insert_key nat_cmp xs place)) at ≡ (has_place (x ∷ xs) at || (place == at))
    by Less is later = or_swap (place == at) (has_place (x ∷ xs) at)
    by Equal is later = absorbed (x == at) (has_place xs at) ∙ ap (λ n. has_place (x ∷ xs) at || (n == at)) (sym (exact_unsigned place x is))
    by Greater is later = ap (λ b. (x == at) || b) later ∙ sym (or_assoc (x == at) (has_place xs at) (place == at))

pub all_more : (old new : List ℕ) (place : ℕ) → new ≡ insert_key nat_cmp old place → ((at : ℕ) → at < place → has_place old at ≡ true) → (at : ℕ) → at < place + 1 → has_place new at ≡ true
all_more old new place is all at lt =
    ap (λ places. has_place places at) is ∙ has_inserted old place at ∙ by (cases_lt at place)
  where
    by : (at < place) ⊎ (place ≤ at) → (has_place old at || (place == at)) ≡ true
    by (inl before) = ap (λ b. b || (place == at)) (all at before)
    by (inr past) =
        let same : place ≡ at = omega (arith, lt, past) in
        ap (λ b. has_place old at || b) (ap (λ n. n == at) same ∙ eqb_refl at) ∙ or_true (has_place old at)

pub with_next : (first old new more : List ℕ) (i x : ℕ) → i < length more → x ≡ get_or more i x → new ≡ insert_key nat_cmp old x → ((at : ℕ) → has_place old at ≡ (has_place first at || has_place (take i more) at)) →
    (at : ℕ) → has_place new at ≡ (has_place first at || has_place (take (i + 1) more) at)
with_next first old new more i x lt item is have at =
    ap (λ places. has_place places at) is ∙ has_inserted old x at ∙ ap (λ b. b || (x == at)) (have at)
    ∙ or_assoc (has_place first at) (has_place (take i more) at) (x == at)
    ∙ ap (λ b. has_place first at || b) (sym (any_next (λ other. other == at) more i x lt item))

-- ---- marks that are set in order

-- nothing is marked from a place on
abbrev pub IsFree : List Bool → ℕ → Type 0
IsFree marks place = (later : ℕ) → place ≤ later → get_or marks later false ≡ false

pub free_first : (marks : List Bool) (keys left : List ℕ) (place : ℕ) → keys ≡ place ∷ left → All (IsFree marks) keys → IsFree marks place
free_first marks keys left place is free = All-head (IsFree marks) place left (subst (λ ks. All (IsFree marks) ks) is free)

pub free_next : (marks new : List Bool) (keys left : List ℕ) (place : ℕ) → keys ≡ place ∷ left → new ≡ set marks place true → All (λ k. nat_cmp place k ≡ Less) left → All (IsFree marks) keys → All (IsFree new) left
free_next marks new keys left place is made above free k d lt later le =
    let past : place < get_or left k d = ranked place (get_or left k d) Less (sym (above k d lt)) in
    ap (λ ms. get_or ms later false) made
    ∙ get_or-set_other marks place later true false (λ same. omega (arith, past, le, same))
    ∙ All-tail (IsFree marks) place left (subst (λ ks. All (IsFree marks) ks) is free) k d lt later le

none_marked : (count : ℕ) (keys : List ℕ) → All (IsFree (replicate count false)) keys
none_marked count keys k d lt later le = by (cases_lt later count)
  where
    by : (later < count) ⊎ (count ≤ later) → get_or (replicate count false) later false ≡ false
    by (inl lt) = get_or-replicate count later false false lt
    by (inr past) = get_past (replicate count false) later (subst (λ n. n ≤ later) (sym (length-replicate count false)) past)
      where
        get_past : (marks : List Bool) (i : ℕ) → length marks ≤ i → get_or marks i false ≡ false
        get_past [] i le = refl
        get_past (m ∷ marks) zero le = absurd (omega (arith, le))
        get_past (m ∷ marks) (suc i) le = get_past marks i (omega (arith, le))

pub free_begin : (marks : List Bool) (count : ℕ) (keys : List ℕ) → marks ≡ replicate count false → All (IsFree marks) keys
free_begin marks count keys is = subst (λ ms. All (IsFree ms) keys) (sym is) (none_marked count keys)

pub marks_more : (marks new : List Bool) (keys left : List ℕ) (place : ℕ) (all : List Bool) → keys ≡ place ∷ left → new ≡ set marks place true → marked_on marks keys ≡ all → marked_on new left ≡ all
marks_more marks new keys left place all is made kept = ap (λ ms. marked_on ms left) made ∙ ap (marked_on marks) (sym is) ∙ kept
