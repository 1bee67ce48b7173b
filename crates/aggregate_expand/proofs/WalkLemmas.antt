-- The walk through the children: one visit, one child more, all children.
use Rattle.std.proofs.Common.{◌≡◌, ◌⊎◌, inl, inr, ℕ, suc, ◌+◌, ◌<◌, ◌≤◌, List, [], ◌∷◌, ◌++◌, Bool, true, false, ◌||◌, refl, sym, ◌∙◌, ap, subst, arith, length, drop, get_or, Some, None}
use Rattle.std.specs.Prelude.{Ok, if◌then◌else◌, slice_get, option_and_then}
use Rattle.std.specs.List.{list_any, list_all, flat_map}
use Rattle.std.specs.declared.cmp.Ordering.{Ordering}
use Rattle.std.specs.declared.cmp.Ordering.TheVariants.{Less, Equal, Greater}
use Rattle.std.specs.Ordering.{nat_cmp, is_eq, ordering_then}
use Rattle.std.specs.Cmp.Lexicographic.{slice_cmp}
use Rattle.std.specs.Cmp.{unsigned_ties}
use Rattle.std.proofs.lemmas.Bool.{or_left, eqb-true, true≢false}
use Rattle.std.proofs.lemmas.List.{drop_more, drop_all}
use Rattle.std.proofs.lemmas.Map.Text.{is_eq-slice_cmp}
use Rattle.std.proofs.lemmas.Option.{slice_get-get_or}
use Rattle.std.proofs.lemmas.Slice.Eq.{bytes_eq-Decides}
use Rattle.aggregate_expand.specs.LookedUp.{Name, has_name, with_names}
use Rattle.aggregate_expand.specs.Chains.{Table, longest_chain, led_to}
use Rattle.aggregate_expand.specs.Leaves.{goes_on, ends, any_child, or_children}
use Rattle.aggregate_expand.specs.LookUps.{IsOnChain}
use Rattle.aggregate_expand.specs.LeafWalk.{Marks, room_at, is_visit, is_visited, AddsOnChains, AreDone}
use Rattle.aggregate_expand.specs.declared.visits.Visit.{Visit}
use Rattle.aggregate_expand.proofs.NameLemmas.{keeps, added_all, all_more, added_same, with_names-append}

-- ---- pairs

then_equal : (a b : Ordering) → is_eq (ordering_then a b) ≡ true → (is_eq a ≡ true) × (is_eq b ≡ true)
then_equal Less b h = (h, absurd (true≢false (sym h)))
then_equal Equal b h = (refl, h)
then_equal Greater b h = (h, absurd (true≢false (sym h)))

same_visit : (visit other : Visit) → is_visit visit other ≡ true → (visit.name ≡ other.name) × (visit.chain_length ≡ other.chain_length)
same_visit visit other same =
    let parts = then_equal (slice_cmp nat_cmp visit.name other.name) (nat_cmp visit.chain_length other.chain_length) same in
    ((bytes_eq-Decides visit.name other.name).0 (sym (is_eq-slice_cmp visit.name other.name) ∙ parts.0), eqb-true visit.chain_length other.chain_length (unsigned_ties visit.chain_length other.chain_length ∙ parts.1))

if_true : (b x : Bool) → (if b then true else x) ≡ true → (b ≡ true) ⊎ (x ≡ true)
if_true true x h = inl refl
if_true false x h = inr h

-- the new list has the visit and what the old one has
abbrev pub HasMarked : List Visit → List Visit → Visit → Type 0
HasMarked old new visit = (other : Visit) → is_visited new other ≡ (if is_visit visit other then true else is_visited old other)

-- a pair that is marked is the new one or was marked
marked_cases : (old new : List Visit) (visit other : Visit) → HasMarked old new visit → is_visited new other ≡ true →
    ((visit.name ≡ other.name) × (visit.chain_length ≡ other.chain_length)) ⊎ (is_visited old other ≡ true)
marked_cases old new visit other marked has =
    elim (if_true (is_visit visit other) (is_visited old other) (sym (marked other) ∙ has)) [ inl same ↦ inl (same_visit visit other same) | inr before ↦ inr before ]

-- ---- what is done with stays so

pub done_more : (table : Table) (room : ℕ) (visits : List Visit) (found more : List Name) → ((name : Name) → has_name found name ≡ true → has_name more name ≡ true) → AreDone table room visits found → AreDone table room visits more
done_more table room visits found more grows done = record {
  free = done.free;
  held = λ visit has fits. all_more found more (ends table (room_at visit.chain_length) visit.name) grows (done.held visit has fits);
}

-- a visit with all the room is no matter of those with less
pub marked_done : (table : Table) (room less : ℕ) (old new : List Visit) (visit : Visit) (found : List Name) → room ≡ suc less → room_at visit.chain_length ≡ room →
    HasMarked old new visit → AreDone table room old found → AreDone table less new found
marked_done table room less old new visit found step at marked done = record {
  free = λ other has fits. elim (marked_cases old new visit other marked has) [ inl same ↦ absurd (clash other fits same.1) | inr before ↦ done.free other before (omega arith) ];
  held = λ other has fits. elim (marked_cases old new visit other marked has) [ inl same ↦ absurd (clash other fits same.1) | inr before ↦ done.held other before (omega arith) ];
}
  where
    clash : (other : Visit) → room_at other.chain_length ≤ less → visit.chain_length ≡ other.chain_length → ⊥
    clash other fits same = omega arith

-- ---- pairs on chains

pub marked_adds : (table : Table) (old new : List Visit) (visit : Visit) → visit.chain_length ≤ longest_chain → HasMarked old new visit → AddsOnChains table visit.name visit.chain_length old new
marked_adds table old new visit short marked other has =
    elim (marked_cases old new visit other marked has) [
      | inl same ↦ inr (([], ap (λ name. Some name) same.0, omega arith), omega arith)
      | inr before ↦ inl before
    ]

-- a chain from a child is one from the cluster, one longer
further : (table : Table) (place : ℕ) (cluster child : Name) (children : List Name) (i : ℕ) (visit : Visit) → table cluster ≡ Some children → slice_get children i ≡ Some child →
    IsOnChain table child (place + 1) visit → IsOnChain table cluster place visit
further table place cluster child children i visit is at (path, led, long) =
    (i ∷ path, ap (λ o. option_and_then (led_to table path) (option_and_then (λ ds. slice_get ds i) o)) is ∙ ap (λ o. option_and_then (led_to table path) o) at ∙ led, omega arith)

pub adds_more : (table : Table) (place : ℕ) (cluster child : Name) (children : List Name) (i : ℕ) (start seen next : List Visit) → table cluster ≡ Some children → slice_get children i ≡ Some child →
    AddsOnChains table cluster place start seen → AddsOnChains table child (place + 1) seen next → AddsOnChains table cluster place start next
adds_more table place cluster child children i start seen next is at before adds visit has =
    elim (adds visit has) [ inl old ↦ before visit old | inr new ↦ inr (further table place cluster child children i visit is at new.0, new.1) ]

-- ---- one child more

-- what holds after i children
pub record IsUnderWay (table : Table) (cluster : Name) (place room less : ℕ) (children : List Name) (i : ℕ) (visits : List Visit) (names : List Name) (seen : List Visit) (found : List Name) : Type 0 where
  pub rest : list_any (goes_on table less) (drop i children) ≡ list_any (goes_on table less) children
  pub more : with_names found (flat_map (ends table less) (drop i children)) ≡ with_names names (flat_map (ends table less) children)
  pub grows : (name : Name) → has_name names name ≡ true → has_name found name ≡ true
  pub done : AreDone table less seen found
  pub adds : AddsOnChains table cluster place visits seen

any_rest : (table : Table) (less : ℕ) (children : List Name) (i : ℕ) (child : Name) → i < length children → child ≡ get_or children i child →
    list_any (goes_on table less) (drop i children) ≡ (goes_on table less child || list_any (goes_on table less) (drop (i + 1) children))
any_rest table less children i child lt is =
    ap (list_any (goes_on table less)) (drop_more children i child lt) ∙ ap (λ y. goes_on table less y || list_any (goes_on table less) (drop (i + 1) children)) (sym is)

ends_rest : (table : Table) (less : ℕ) (children : List Name) (i : ℕ) (child : Name) → i < length children → child ≡ get_or children i child →
    flat_map (ends table less) (drop i children) ≡ ends table less child ++ flat_map (ends table less) (drop (i + 1) children)
ends_rest table less children i child lt is =
    ap (flat_map (ends table less)) (drop_more children i child lt) ∙ ap (λ y. ends table less y ++ flat_map (ends table less) (drop (i + 1) children)) (sym is)

got : (children : List Name) (i : ℕ) (child : Name) → i < length children → child ≡ get_or children i child → slice_get children i ≡ Some child
got children i child lt is = slice_get-get_or children i child lt ∙ ap (λ y. Some y) (sym is)

pub under_way_more : (table : Table) (cluster : Name) (place room less : ℕ) (children : List Name) (i : ℕ) (visits : List Visit) (names : List Name) (seen : List Visit) (found : List Name) (child : Name) (seen' : List Visit) (found' : List Name)
    → IsUnderWay table cluster place room less children i visits names seen found → table cluster ≡ Some children → i < length children → child ≡ get_or children i child
    → goes_on table less child ≡ false → found' ≡ with_names found (ends table less child) → AreDone table less seen' found' → AddsOnChains table child (place + 1) seen seen'
    → IsUnderWay table cluster place room less children (i + 1) visits names seen' found'
under_way_more table cluster place room less children i visits names seen found child seen' found' way is lt at free grown done adds = record {
  rest = ap (λ b. b || list_any (goes_on table less) (drop (i + 1) children)) (sym free) ∙ sym (any_rest table less children i child lt at) ∙ way.rest;
  more =
      ap (λ f. with_names f (flat_map (ends table less) (drop (i + 1) children))) grown
      ∙ sym (with_names-append found (ends table less child) (flat_map (ends table less) (drop (i + 1) children)))
      ∙ ap (with_names found) (sym (ends_rest table less children i child lt at))
      ∙ way.more;
  grows = λ y has. subst (λ f. has_name f y ≡ true) (sym grown) (keeps found (ends table less child) y (way.grows y has));
  done = done;
  adds = adds_more table place cluster child children i visits seen seen' is (got children i child lt at) way.adds adds;
}

-- a child with too long a chain
pub under_way_fails : (table : Table) (cluster : Name) (place room less : ℕ) (children : List Name) (i : ℕ) (visits : List Visit) (names : List Name) (seen : List Visit) (found : List Name) (child : Name)
    → IsUnderWay table cluster place room less children i visits names seen found → room ≡ suc less → table cluster ≡ Some children → i < length children → child ≡ get_or children i child
    → goes_on table less child ≡ true → goes_on table room cluster ≡ true
unfolding goes_on
under_way_fails table cluster place room less children i visits names seen found child way step is lt at long =
    ap (λ k. goes_on table k cluster) step ∙ ap (any_child (goes_on table less)) is ∙ sym way.rest ∙ any_rest table less children i child lt at ∙ or_left _ _ long

-- the first child
pub under_way : (table : Table) (cluster : Name) (place room less : ℕ) (children : List Name) (visits : List Visit) (names : List Name) (seen : List Visit) → AreDone table less seen names → AddsOnChains table cluster place visits seen → IsUnderWay table cluster place room less children 0 visits names seen names
under_way table cluster place room less children visits names seen done adds = record { rest = refl; more = refl; grows = λ x h. h; done = done; adds = adds }

pub under_way_adds : (table : Table) (cluster : Name) (place room less : ℕ) (children : List Name) (i : ℕ) (visits : List Visit) (names : List Name) (seen : List Visit) (found : List Name) (child : Name) (seen' : List Visit)
    → IsUnderWay table cluster place room less children i visits names seen found → table cluster ≡ Some children → i < length children → child ≡ get_or children i child → AddsOnChains table child (place + 1) seen seen' → AddsOnChains table cluster place visits seen'
under_way_adds table cluster place room less children i visits names seen found child seen' way is lt at adds =
    adds_more table place cluster child children i visits seen seen' is (got children i child lt at) way.adds adds

-- ---- all children

-- a pair with all the room on a chain is the first one
first_one : (table : Table) (place : ℕ) (cluster : Name) (visit : Visit) → 0 < room_at place → room_at visit.chain_length ≡ room_at place → IsOnChain table cluster place visit → cluster ≡ visit.name
first_one table place cluster visit some same ([], led, long) = cc
first_one table place cluster visit some same (i ∷ path, led, long) = absurd (omega arith)

close : (table : Table) (cluster : Name) (place room less : ℕ) (old new : List Visit) (names found : List Name) → room ≡ suc less → room_at place ≡ room → AreDone table room old names → AddsOnChains table cluster place old new →
    AreDone table less new found → goes_on table room cluster ≡ false → list_all (has_name found) (ends table room cluster) ≡ true → ((name : Name) → has_name names name ≡ true → has_name found name ≡ true) → AreDone table room new found
close table cluster place room less old new names found step at before adds done free held grows = record {
  free = λ visit has fits. elim (cases visit fits) [
    | inl below ↦ done.free visit has below
    | inr same ↦ elim (adds visit has) [ inl old_one ↦ before.free visit old_one fits | inr new_one ↦ at_first visit same new_one.0 (λ d j. goes_on table j d ≡ false) free ]
  ];
  held = λ visit has fits. elim (cases visit fits) [
    | inl below ↦ done.held visit has below
    | inr same ↦ elim (adds visit has) [
      | inl old_one ↦ all_more names found (ends table (room_at visit.chain_length) visit.name) grows (before.held visit old_one fits)
      | inr new_one ↦ at_first visit same new_one.0 (λ d j. list_all (has_name found) (ends table j d) ≡ true) held
    ]
  ];
}
  where
    cases : (visit : Visit) → room_at visit.chain_length ≤ room → (room_at visit.chain_length ≤ less) ⊎ (room_at visit.chain_length ≡ room)
    cases visit fits = grind arith

    at_first : (visit : Visit) → room_at visit.chain_length ≡ room → IsOnChain table cluster place visit → (P : Name → ℕ → Type 0) → P cluster room → P visit.name (room_at visit.chain_length)
    at_first visit same on P holds =
        let some : 0 < room_at place = omega arith in
        let equal : room_at visit.chain_length ≡ room_at place = omega arith in
        subst (λ j. P visit.name j) (sym same) (subst (λ d. P d room) (first_one table place cluster visit some equal on) holds)

pub all_free : (table : Table) (cluster : Name) (place room less : ℕ) (children : List Name) (i : ℕ) (visits : List Visit) (names : List Name) (seen : List Visit) (found : List Name)
    → IsUnderWay table cluster place room less children i visits names seen found → room ≡ suc less → table cluster ≡ Some children → length children ≤ i → goes_on table room cluster ≡ false
unfolding goes_on
all_free table cluster place room less children i visits names seen found way step is ge =
    ap (λ k. goes_on table k cluster) step ∙ ap (any_child (goes_on table less)) is ∙ sym way.rest ∙ ap (list_any (goes_on table less)) (drop_all i children ge)

pub all_found : (table : Table) (cluster : Name) (place room less : ℕ) (children : List Name) (i : ℕ) (visits : List Visit) (names : List Name) (seen : List Visit) (found : List Name)
    → IsUnderWay table cluster place room less children i visits names seen found → room ≡ suc less → table cluster ≡ Some children → length children ≤ i → found ≡ with_names names (ends table room cluster)
unfolding ends
all_found table cluster place room less children i visits names seen found way step is ge =
    ap (λ ds. with_names found (flat_map (ends table less) ds)) (sym (drop_all i children ge)) ∙ way.more ∙ ap (λ o. with_names names (or_children cluster (ends table less) o)) (sym is) ∙ ap (λ k. with_names names (ends table k cluster)) (sym step)

pub all_done : (table : Table) (cluster : Name) (place room less : ℕ) (children : List Name) (i : ℕ) (visits : List Visit) (names : List Name) (seen : List Visit) (found : List Name)
    → IsUnderWay table cluster place room less children i visits names seen found → room ≡ suc less → room_at place ≡ room → table cluster ≡ Some children → length children ≤ i → AreDone table room visits names → AreDone table room seen found
all_done table cluster place room less children i visits names seen found way step at is ge before =
    close table cluster place room less visits seen names found step at before way.adds way.done (all_free table cluster place room less children i visits names seen found way step is ge)
    (subst (λ f. list_all (has_name f) (ends table room cluster) ≡ true) (sym (all_found table cluster place room less children i visits names seen found way step is ge)) (added_all names (ends table room cluster)))
    way.grows

-- ---- a leaf

pub leaf_free : (table : Table) (leaf : Name) (room less : ℕ) → room ≡ suc less → table leaf ≡ None → goes_on table room leaf ≡ false
unfolding goes_on
leaf_free table leaf room less step is = ap (λ k. goes_on table k leaf) step ∙ ap (any_child (goes_on table less)) is

pub leaf_ends : (table : Table) (leaf : Name) (room less : ℕ) → room ≡ suc less → table leaf ≡ None → ends table room leaf ≡ leaf ∷ []
unfolding ends
leaf_ends table leaf room less step is = ap (λ k. ends table k leaf) step ∙ ap (or_children leaf (ends table less)) is

-- a leaf, marked and added
pub leaf_done : (table : Table) (room less : ℕ) (old new : List Visit) (visit : Visit) (names found : List Name) → room ≡ suc less → room_at visit.chain_length ≡ room → table visit.name ≡ None → AreDone table room old names →
    HasMarked old new visit → found ≡ with_names names (visit.name ∷ []) → AreDone table room new found
leaf_done table room less old new visit names found step at is done marked grown =
    close table visit.name visit.chain_length room less old new names found step at done (marked_adds table old new visit (omega arith) marked)
    (done_more table less new names found grows (marked_done table room less old new visit names step at marked done))
    (leaf_free table visit.name room less step is)
    (subst (λ es. list_all (has_name found) es ≡ true) (sym (leaf_ends table visit.name room less step is)) (subst (λ f. list_all (has_name f) (visit.name ∷ []) ≡ true) (sym grown) (added_all names (visit.name ∷ []))))
    grows
  where
    grows : (name : Name) → has_name names name ≡ true → has_name found name ≡ true
    grows name has = subst (λ f. has_name f name ≡ true) (sym grown) (keeps names (visit.name ∷ []) name has)

-- ---- what `mark` tells

pub record IsFresh (old new : List Visit) (visit : Visit) : Type 0 where
  pub absent : is_visited old visit ≡ false
  pub marked : HasMarked old new visit
  pub count : length new ≡ length old + 1

pub fresh : (old new : List Visit) (visit : Visit) (is_new : Bool) → is_new ≡ true → Marks old new visit (Ok is_new) → IsFresh old new visit
fresh old new visit true is marks = record { absent = marks.0; marked = marks.1; count = marks.2 }
fresh old new visit false is marks = absurd (true≢false (sym is))

pub seen_before : (old new : List Visit) (visit : Visit) (is_new : Bool) → is_new ≡ false → Marks old new visit (Ok is_new) → is_visited old visit ≡ true
seen_before old new visit true is marks = absurd (true≢false is)
seen_before old new visit false is marks = marks.0

-- one that was visited before adds nothing
pub nothing_added : (table : Table) (room : ℕ) (old : List Visit) (names : List Name) (visit : Visit) → room_at visit.chain_length ≡ room → AreDone table room old names → is_visited old visit ≡ true → names ≡ with_names names (ends table room visit.name)
nothing_added table room old names visit at done has =
    sym (added_same names (ends table room visit.name) (subst (λ j. list_all (has_name names) (ends table j visit.name) ≡ true) at (done.held visit has (omega arith))))

pub no_room : (table : Table) (room : ℕ) (cluster : Name) → room ≡ 0 → goes_on table room cluster ≡ true
unfolding goes_on
no_room table room cluster none = ap (λ k. goes_on table k cluster) none
