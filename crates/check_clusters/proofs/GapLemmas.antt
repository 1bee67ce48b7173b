-- Priorities without a gap, found by going over localities in ascending priority.
use Rattle.std.proofs.Common.{◌≡◌, ℕ, ◌<◌, ◌≤◌, ◌+◌, ◌⊎◌, inl, inr, List, [], ◌∷◌, Bool, true, false, cond, refl, sym, ap, ◌∙◌, subst, arith, eqb-true, eq-eqb, leb-true, le-leb, leb-false, true≢false, AllPairs, length, get_or, drop, drop-cons, drop_of_length-le, suc}
use Rattle.std.specs.Prelude.{◌==◌, ◌&&◌, ◌||◌, nat_le}
use Rattle.std.specs.List.{list_all, list_any}
use Rattle.xds_config.specs.declared.endpoint_values.Locality.{Locality}
use Rattle.check_clusters.specs.Assignments.{has_no_gap, have_no_gap}
use Rattle.check_clusters.proofs.OrderLemmas.{AtLeast, Ascends, ascends_from}
use Rattle.check_clusters.proofs.TestLemmas.{same_test, both, both_true, first_true, second_true, either_true}

-- the first priority that isn't there yet, after one more locality
abbrev pub next_after : ℕ → Locality → ℕ
next_after next l = cond (l.priority == next) (next + 1) next

-- no locality is above the first priority that isn't there yet
abbrev pub closes_from : ℕ → List Locality → Bool
closes_from next [] = true
closes_from next (l ∷ ls) = nat_le l.priority next && closes_from (next_after next l) ls

-- the priority below it is there
abbrev has_below : ℕ → List Locality → Bool
has_below p ls = list_any (λ l. l.priority + 1 == p) ls

-- each is at most the first that isn't there yet, or has the one below it
abbrev AreClosed : ℕ → List Locality → List Locality → Type 0
AreClosed next whole [] = Unit {0}
AreClosed next whole (l ∷ ls) = ((l.priority ≤ next) ⊎ (has_below l.priority whole ≡ true)) × AreClosed next whole ls

next_above : (b : Bool) (next p : ℕ) → (p == next) ≡ b → p ≤ next → p < cond b (next + 1) next
next_above true next p is low = omega arith
next_above false next p is low = omega (arith, λ (e : p ≡ next). true≢false (sym (eq-eqb p next e) ∙ is))

next_rises : (b : Bool) (next : ℕ) → next ≤ cond b (next + 1) next
next_rises true next = omega arith
next_rises false next = omega arith

at_next : (b : Bool) (next p k : ℕ) → (p == next) ≡ b → k ≤ cond b (next + 1) next → (k ≤ next) ⊎ (p + 1 ≡ k)
at_next true next p k is low = at (nat_le k next) refl
  where
    at : (c : Bool) → nat_le k next ≡ c → (k ≤ next) ⊎ (p + 1 ≡ k)
    at true le = inl (leb-true k next le)
    at false le = inr (let above = leb-false k next le in let e = eqb-true p next is in omega arith)
at_next false next p k is low = inl low

-- ---- where none is above, each is closed

more_closed : (next : ℕ) (l : Locality) (whole ls : List Locality) → AreClosed (next_after next l) whole ls → AreClosed next (l ∷ whole) ls
more_closed next l whole [] h = tt
more_closed next l whole (k ∷ ks) h = (at h.0, more_closed next l whole ks h.1)
  where
    from_next : (k.priority ≤ next) ⊎ (l.priority + 1 ≡ k.priority) → (k.priority ≤ next) ⊎ (has_below k.priority (l ∷ whole) ≡ true)
    from_next (inl low) = inl low
    from_next (inr is) = inr (first_true (l.priority + 1 == k.priority) (has_below k.priority whole) (eq-eqb (l.priority + 1) k.priority is))

    at : (k.priority ≤ next_after next l) ⊎ (has_below k.priority whole ≡ true) → (k.priority ≤ next) ⊎ (has_below k.priority (l ∷ whole) ≡ true)
    at (inl low) = from_next (at_next (l.priority == next) next l.priority k.priority refl low)
    at (inr has) = inr (second_true (l.priority + 1 == k.priority) (has_below k.priority whole) has)

closed : (next : ℕ) (ls : List Locality) → closes_from next ls ≡ true → AreClosed next ls ls
closed next [] h = tt
closed next (l ∷ ls) h =
    let low = both (nat_le l.priority next) (closes_from (next_after next l) ls) h in
    (inl (leb-true l.priority next low.0), more_closed next l ls ls (closed (next_after next l) ls low.1))

-- ---- and the other way

none_at : (p : ℕ) (l : Locality) (ls : List Locality) → p ≤ l.priority → has_below p ls ≡ false → has_below p (l ∷ ls) ≡ false
none_at p l ls low none = at (l.priority + 1 == p) refl
  where
    at : (b : Bool) → (l.priority + 1 == p) ≡ b → (b || has_below p ls) ≡ false
    at true is = absurd (let e = eqb-true (l.priority + 1) p is in omega arith)
    at false is = none

none_below : (n p : ℕ) (ls : List Locality) → p ≤ n → AtLeast n ls → has_below p ls ≡ false
none_below n p [] low h = refl
none_below n p (l ∷ ls) low h = none_at p l ls (omega (arith, h.0)) (none_below n p ls low h.1)

less_closed : (next : ℕ) (l : Locality) (whole ls : List Locality) → l.priority ≤ next → AreClosed next (l ∷ whole) ls → AreClosed (next_after next l) whole ls
less_closed next l whole [] low h = tt
less_closed next l whole (k ∷ ks) low h = (at h.0, less_closed next l whole ks low h.1)
  where
    rises : next ≤ next_after next l
    rises = next_rises (l.priority == next) next

    above : l.priority < next_after next l
    above = next_above (l.priority == next) next l.priority refl low

    from : (l.priority + 1 == k.priority ≡ true) ⊎ (has_below k.priority whole ≡ true) → (k.priority ≤ next_after next l) ⊎ (has_below k.priority whole ≡ true)
    from (inl is) = inl (let e = eqb-true (l.priority + 1) k.priority is in let a = above in omega arith)
    from (inr has) = inr has

    at : (k.priority ≤ next) ⊎ (has_below k.priority (l ∷ whole) ≡ true) → (k.priority ≤ next_after next l) ⊎ (has_below k.priority whole ≡ true)
    at (inl under) = inl (let r = rises in omega arith)
    at (inr has) = from (either_true (l.priority + 1 == k.priority) (has_below k.priority whole) has)

first_low : (next : ℕ) (l : Locality) (ls : List Locality) → AtLeast l.priority ls → (l.priority ≤ next) ⊎ (has_below l.priority (l ∷ ls) ≡ true) → l.priority ≤ next
first_low next l ls up (inl low) = low
first_low next l ls up (inr has) = absurd (true≢false (sym has ∙ none_below l.priority l.priority (l ∷ ls) (omega arith) (omega arith, up)))

closes : (next : ℕ) (ls : List Locality) → Ascends ls → AreClosed next ls ls → closes_from next ls ≡ true
closes next [] up h = refl
closes next (l ∷ ls) up h =
    let low = first_low next l ls up.0 h.0 in
    both_true (nat_le l.priority next) (closes_from (next_after next l) ls) (le-leb l.priority next low) (closes (next_after next l) ls up.1 (less_closed next l ls ls low h.1))

-- ---- from the first priority on

to_zero : (p : ℕ) (whole : List Locality) → (p ≤ 0) ⊎ (has_below p whole ≡ true) → has_no_gap whole p ≡ true
to_zero p whole (inl low) = first_true (p == 0) (has_below p whole) (eq-eqb p 0 (omega arith))
to_zero p whole (inr has) = second_true (p == 0) (has_below p whole) has

of_zero : (p : ℕ) (whole : List Locality) → has_no_gap whole p ≡ true → (p ≤ 0) ⊎ (has_below p whole ≡ true)
of_zero p whole h = at (either_true (p == 0) (has_below p whole) h)
  where
    at : ((p == 0) ≡ true) ⊎ (has_below p whole ≡ true) → (p ≤ 0) ⊎ (has_below p whole ≡ true)
    at (inl is) = inl (let e = eqb-true p 0 is in omega arith)
    at (inr has) = inr has

all_closed : (whole ls : List Locality) → AreClosed 0 whole ls → list_all (λ l. has_no_gap whole l.priority) ls ≡ true
all_closed whole [] h = refl
all_closed whole (l ∷ ls) h = both_true (has_no_gap whole l.priority) (list_all (λ k. has_no_gap whole k.priority) ls) (to_zero l.priority whole h.0) (all_closed whole ls h.1)

each_closed : (whole ls : List Locality) → list_all (λ l. has_no_gap whole l.priority) ls ≡ true → AreClosed 0 whole ls
each_closed whole [] h = tt
each_closed whole (l ∷ ls) h =
    let first = both (has_no_gap whole l.priority) (list_all (λ k. has_no_gap whole k.priority) ls) h in
    (of_zero l.priority whole first.0, each_closed whole ls first.1)

-- going over them tells what the definition says
pub no_gap : (ls : List Locality) → Ascends ls → closes_from 0 ls ≡ have_no_gap ls
no_gap ls up = same_test (closes_from 0 ls) (have_no_gap ls) (λ h. all_closed ls ls (closed 0 ls h)) (λ h. closes 0 ls up (each_closed ls ls h))

-- ---- where going over them ends

high : (b : Bool) (next p : ℕ) → next < p → (nat_le p next && b) ≡ false
high b next p above = at (nat_le p next) refl
  where
    at : (c : Bool) → nat_le p next ≡ c → (c && b) ≡ false
    at true is = absurd (let low = leb-true p next is in omega arith)
    at false is = refl

pub too_high : (ls : List Locality) (i next : ℕ) (l : Locality) → AllPairs (λ a b. a.priority ≤ b.priority) ls → i < length ls → l ≡ get_or ls i l → next < l.priority
    → closes_from next (drop i ls) ≡ closes_from 0 ls → false ≡ have_no_gap ls
too_high ls i next l up lt is above rest =
    sym (ap (closes_from next) (drop-cons ls i l lt) ∙ high (closes_from (next_after next (get_or ls i l)) (drop (suc i) ls)) next (get_or ls i l).priority (subst (λ m. next < m.priority) is above))
    ∙ rest
    ∙ no_gap ls (ascends_from ls up)

pub all_there : (ls : List Locality) (i next : ℕ) → AllPairs (λ a b. a.priority ≤ b.priority) ls → length ls ≤ i → closes_from next (drop i ls) ≡ closes_from 0 ls → true ≡ have_no_gap ls
all_there ls i next up all rest = sym (ap (closes_from next) (drop_of_length-le ls all)) ∙ rest ∙ no_gap ls (ascends_from ls up)
