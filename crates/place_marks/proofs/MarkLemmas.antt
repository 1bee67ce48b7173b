-- Marks by the marked places.
use Rattle.std.proofs.Common.{◌≡◌, ◌<◌, ◌≤◌, ◌+◌, ◌^◌, ◌⊎◌, ℕ, zero, suc, Bool, true, false, List, [], ◌∷◌, ◌++◌, length, get_or, set, replicate, eqb-true, inl, inr, refl, sym, ap, subst, ◌∙◌, arith}
use Rattle.std.specs.Prelude.{◌↔◌, All, Contains, not, ◌==◌}
use Rattle.std.specs.List.{list_any}
use Rattle.std.proofs.lemmas.Bool.{cases_eq, cases_lt}
use Rattle.std.proofs.lemmas.List.{length-set, length-replicate, get_or_past, get_or-replicate, get_or-set_same, get_or-set_other, replicate_more, set-append_left, set_at}
use Rattle.std.proofs.lemmas.List.Elements.{All-head, All-tail, All-push, All-weaker, All-replicate, All-contains, Contains-get_or}
use Rattle.std.proofs.lemmas.List.Folds.{list_any_none, list_any_at}
use Rattle.std.proofs.lemmas.List.Quantifiers.{all_pairs_push}
use Rattle.place_marks.specs.Marks.{marked_on, marks_of, AreMarked}

-- there are as many marks as before
length_on : (marks : List Bool) (places : List ℕ) → length (marked_on marks places) ≡ length marks
length_on marks [] = refl
length_on marks (place ∷ places) = length_on (set marks place true) places ∙ length-set marks place true

pub length_marks : (count : ℕ) (places : List ℕ) → length (marks_of count places) ≡ count
length_marks count places = length_on (replicate count false) places ∙ length-replicate count false

-- one more marked place at the end
on_more : (marks : List Bool) (places : List ℕ) (place : ℕ) → marked_on marks (places ++ place ∷ []) ≡ set (marked_on marks places) place true
on_more marks [] place = refl
on_more marks (p ∷ places) place = on_more (set marks p true) places place

pub marks_more : (count : ℕ) (places : List ℕ) (place : ℕ) → marks_of count (places ++ place ∷ []) ≡ set (marks_of count places) place true
marks_more count places place = on_more (replicate count false) places place

-- one more mark at the end, behind all places
on_longer : (marks : List Bool) (places : List ℕ) (mark : Bool) → All (λ place. place < length marks) places → marked_on (marks ++ mark ∷ []) places ≡ marked_on marks places ++ mark ∷ []
on_longer marks [] mark within = refl
on_longer marks (place ∷ places) mark within =
    let first : place < length marks = All-head (λ (p : ℕ). p < length marks) place places within in
    ap (λ (ms : List Bool). marked_on ms places) (set-append_left marks (mark ∷ []) place true first)
    ∙ on_longer (set marks place true) places mark (subst (λ (n : ℕ). All (λ p. p < n) places) (sym (length-set marks place true)) (All-tail (λ (p : ℕ). p < length marks) place places within))

-- one more place, which isn't marked
pub unmarked_more : (count : ℕ) (places : List ℕ) → All (λ place. place < count) places → marks_of (count + 1) places ≡ marks_of count places ++ false ∷ []
unmarked_more count places within =
    ap (λ (ms : List Bool). marked_on ms places) (sym (replicate_more count false))
    ∙ on_longer (replicate count false) places false (subst (λ (n : ℕ). All (λ p. p < n) places) (sym (length-replicate count false)) within)

-- one more place, which is marked
pub marked_more : (count : ℕ) (places : List ℕ) → All (λ place. place < count) places → marks_of (count + 1) (places ++ count ∷ []) ≡ marks_of count places ++ true ∷ []
marked_more count places within =
    on_more (replicate (count + 1) false) places count
    ∙ ap (λ (ms : List Bool). set ms count true) (unmarked_more count places within)
    ∙ set_at (marks_of count places) false [] true count (length_marks count places)

-- ---- which places are marked

-- what is marked stays so
stays_on : (marks : List Bool) (places : List ℕ) (place : ℕ) → get_or marks place false ≡ true → get_or (marked_on marks places) place false ≡ true
stays_on marks [] place on = on
stays_on marks (p ∷ places) place on = stays_on (set marks p true) places place (by (cases_eq place p))
  where
    inside : (place < length marks) ⊎ (length marks ≤ place) → place < length marks
    inside (inl lt) = lt
    inside (inr past) = (let clash : false ≡ true = sym (get_or_past marks place false past) ∙ on in absurd (cc))

    by : (place ≡ p) ⊎ (place ≡ p → ⊥) → get_or (set marks p true) place false ≡ true
    by (inl same) =
        let lt : place < length marks = inside (cases_lt place (length marks)) in
        ap (λ (n : ℕ). get_or (set marks n true) place false) (sym same) ∙ get_or-set_same marks place true false lt
    by (inr other) = get_or-set_other marks p place true false other ∙ on

-- each of the places is marked
listed_on : (marks : List Bool) (places : List ℕ) (k d : ℕ) → k < length places → All (λ place. place < length marks) places → get_or (marked_on marks places) (get_or places k d) false ≡ true
listed_on marks [] k d lt within = absurd (omega (arith, lt))
listed_on marks (p ∷ places) zero d lt within =
    stays_on (set marks p true) places p (get_or-set_same marks p true false (All-head (λ (q : ℕ). q < length marks) p places within))
listed_on marks (p ∷ places) (suc k) d lt within =
    listed_on (set marks p true) places k d (omega (arith, lt)) (subst (λ (n : ℕ). All (λ q. q < n) places) (sym (length-set marks p true)) (All-tail (λ (q : ℕ). q < length marks) p places within))

-- what is marked was so before, or is one of the places
on_listed : (marks : List Bool) (places : List ℕ) (place : ℕ) → get_or (marked_on marks places) place false ≡ true → (get_or marks place false ≡ true) ⊎ Contains places place
on_listed marks [] place on = inl on
on_listed marks (p ∷ places) place on = by (cases_eq place p) (on_listed (set marks p true) places place on)
  where
    by : (place ≡ p) ⊎ (place ≡ p → ⊥) → (get_or (set marks p true) place false ≡ true) ⊎ Contains places place → (get_or marks place false ≡ true) ⊎ Contains (p ∷ places) place
    by (inl same) was = inr (0, omega arith, sym same)
    by (inr other) (inl was) = inl (sym (get_or-set_other marks p place true false other) ∙ was)
    by (inr other) (inr among) = inr (suc among.0, omega (arith, among.1), among.2)

-- nothing is marked at first
none_on : (count place : ℕ) → get_or (replicate count false) place false ≡ true → ⊥
none_on count place on = by (cases_lt place count)
  where
    by : (place < count) ⊎ (count ≤ place) → ⊥
    by (inl lt) = (let clash : false ≡ true = sym (get_or-replicate count place false false lt) ∙ on in absurd (cc))
    by (inr past) =
        let long : length (replicate count false) ≤ place = omega (arith, past, length-replicate count false) in
        let clash : false ≡ true = sym (get_or_past (replicate count false) place false long) ∙ on in
        absurd (cc)

-- exactly the listed places are marked
pub marked_is : (count : ℕ) (places : List ℕ) → All (λ place. place < count) places → (place : ℕ) → (get_or (marks_of count places) place false ≡ true) ↔ Contains places place
marked_is count places within place = (λ on. listed (on_listed (replicate count false) places place on), marked)
  where
    listed : (get_or (replicate count false) place false ≡ true) ⊎ Contains places place → Contains places place
    listed (inl on) = absurd (none_on count place on)
    listed (inr among) = among

    marked : Contains places place → get_or (marks_of count places) place false ≡ true
    marked among =
        ap (λ (n : ℕ). get_or (marks_of count places) n false) (sym among.2)
        ∙ listed_on (replicate count false) places among.0 place among.1 (subst (λ (n : ℕ). All (λ p. p < n) places) (sym (length-replicate count false)) within)

-- ---- one more place

-- a marked place stands before a place from which on nothing is marked
all_before : (count : ℕ) (places : List ℕ) (place : ℕ) → All (λ p. p < count) places → ((later : ℕ) → place ≤ later → get_or (marks_of count places) later false ≡ false) → (k d : ℕ) → k < length places → get_or places k d < place
all_before count places place within last k d lt = by (cases_lt (get_or places k d) place)
  where
    by : (get_or places k d < place) ⊎ (place ≤ get_or places k d) → get_or places k d < place
    by (inl before) = before
    by (inr later) =
        let on : get_or (marks_of count places) (get_or places k d) false ≡ true = (marked_is count places within (get_or places k d)).1 (Contains-get_or places k d lt) in
        let clash : false ≡ true = sym (last (get_or places k d) later) ∙ on in
        absurd (cc)

-- the place may be marked too
pub are_marked_more : (count : ℕ) (places : List ℕ) (place : ℕ) → AreMarked count places → place < count → ((later : ℕ) → place ≤ later → get_or (marks_of count places) later false ≡ false) → AreMarked count (places ++ place ∷ [])
are_marked_more count places place are lt last = record {
  rising = all_pairs_push (λ (a b : ℕ). a < b) places place are.rising (all_before count places place are.within last);
  within = All-push (λ (p : ℕ). p < count) places place are.within lt;
  few = are.few;
}

-- the same marked places in a list that is longer by one
pub are_marked_longer : (count : ℕ) (places : List ℕ) → AreMarked count places → count < 2 ^ 32 → AreMarked (count + 1) places
are_marked_longer count places are few = record {
  rising = are.rising;
  within = All-weaker (λ (p : ℕ). p < count) (λ (p : ℕ). p < count + 1) (λ p lt. omega (arith, lt)) places are.within;
  few = omega (arith, few);
}

-- the new place at the end may be marked too
pub are_marked_pushed : (count : ℕ) (places : List ℕ) → AreMarked count places → count < 2 ^ 32 → AreMarked (count + 1) (places ++ count ∷ [])
are_marked_pushed count places are few = record {
  rising = all_pairs_push (λ (a b : ℕ). a < b) places count are.rising (λ k d lt. All-contains (λ (p : ℕ). p < count) places (get_or places k d) are.within (Contains-get_or places k d lt));
  within = All-push (λ (p : ℕ). p < count + 1) places count (All-weaker (λ (p : ℕ). p < count) (λ (p : ℕ). p < count + 1) (λ p lt. omega (arith, lt)) places are.within) (omega arith);
  few = omega (arith, few);
}

-- ---- what is asked of the marks

not_zero : (n : ℕ) → (suc n == 0) ≡ false
not_zero n = by (suc n == 0) refl
  where
    by : (b : Bool) → (suc n == 0) ≡ b → b ≡ false
    by true zero_too = absurd (omega (arith, eqb-true (suc n) 0 zero_too))
    by false other = refl

-- none is marked exactly where no place is listed
pub any_marked : (count : ℕ) (places : List ℕ) → All (λ place. place < count) places → (length places == 0) ≡ not (list_any (λ (mark : Bool). mark) (marks_of count places))
any_marked count [] within = sym (ap not (list_any_none (λ (mark : Bool). mark) (replicate count false) (All-replicate (λ (mark : Bool). mark ≡ false) count false refl)))
any_marked count (place ∷ places) within =
    let on : get_or (marks_of count (place ∷ places)) place false ≡ true = (marked_is count (place ∷ places) within place).1 (Contains-get_or (place ∷ places) 0 place (omega arith)) in
    let there : place < length (marks_of count (place ∷ places)) = omega (arith, length_marks count (place ∷ places), All-head (λ (p : ℕ). p < count) place places within) in
    not_zero (length places) ∙ sym (ap not (list_any_at (λ (mark : Bool). mark) (marks_of count (place ∷ places)) place false there on))
