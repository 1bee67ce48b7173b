-- What is kept of counts and lines, one entry on.
use Rattle.std.proofs.Common.{◌≡◌, ◌⊎◌, inl, inr, ℕ, zero, suc, ◌+◌, ◌<◌, ◌≤◌, ◌==◌, Bool, true, false, ◌&&◌, ◌||◌, if◌then◌else◌, List, [], ◌∷◌, map, length, get_or, slice_set, refl, sym, ap, ap₂, ◌∙◌, eq-eqb, ne_eqb, Some, arith}
use Rattle.std.specs.Prelude.{slice_get, replicate}
use Rattle.std.specs.List.{range_with_len}
use Rattle.std.proofs.lemmas.Option.{slice_get-get_or, slice_get_within}
use Rattle.std.proofs.lemmas.List.FromFn.{length-map-range_with_len, get_or-map-range_with_len}
use Rattle.call_journal.specs.declared.entry.Entry.{Entry}
use Rattle.call_journal.specs.declared.plan.Count.{Count}
use Rattle.book_progress.specs.ActorCounts.{count_of, count_after, no_count}
use Rattle.book_progress.specs.EndedLines.{ends_line, has_ended}
use Rattle.book_progress.specs.ProgressKept.{Tally, counts_of, ends_of, tally_of}

-- ---- lists made from the places

module _ {X : Type 0} (f g : ℕ → X) where
  pub all_same : (p n : ℕ) → ((i : ℕ) → g i ≡ f i) → map g (range_with_len p n) ≡ map f (range_with_len p n)
  all_same p zero same = refl
  all_same p (suc n) same = ap₂ (λ x xs. x ∷ xs) (same p) (all_same (p + 1) n same)

  same_later : (a p n : ℕ) → a < p → ((i : ℕ) → (i ≡ a → ⊥) → g i ≡ f i) → map f (range_with_len p n) ≡ map g (range_with_len p n)
  same_later a p zero lt same = refl
  same_later a p (suc n) lt same = ap₂ (λ x xs. x ∷ xs) (sym (same p (λ e. absurd (omega (arith, lt, e))))) (same_later a (p + 1) n (omega (arith, lt)) same)

  pub set_one : (p n k a : ℕ) → p + k ≡ a → k < n → ((i : ℕ) → (i ≡ a → ⊥) → g i ≡ f i) → slice_set (map f (range_with_len p n)) k (g a) ≡ map g (range_with_len p n)
  set_one p zero k a is lt same = absurd (omega (arith, lt))
  set_one p (suc n) zero a is lt same =
      let at : p ≡ a = omega (arith, is) in
      ap₂ (λ x xs. x ∷ xs) (ap g (sym at)) (same_later a (p + 1) n (omega (arith, at)) same)
  set_one p (suc n) (suc k) a is lt same =
      ap₂ (λ x xs. x ∷ xs) (sym (same p (λ e. absurd (omega (arith, is, e))))) (set_one (p + 1) n k a (omega (arith, is)) (omega (arith, lt)) same)

  -- where a place isn't among the first, nothing changes
  pub set_none : (a p n : ℕ) → p + n ≤ a → ((i : ℕ) → (i ≡ a → ⊥) → g i ≡ f i) → map f (range_with_len p n) ≡ map g (range_with_len p n)
  set_none a p zero le same = refl
  set_none a p (suc n) le same =
      ap₂ (λ x xs. x ∷ xs) (sym (same p (λ e. absurd (omega (arith, le, e))))) (set_none a (p + 1) n (omega (arith, le)) same)

-- ---- before the first entry

constant_map : {X : Type 0} (f : ℕ → X) (x : X) (p n : ℕ) → ((i : ℕ) → f i ≡ x) → replicate n x ≡ map f (range_with_len p n)
constant_map f x p zero same = refl
constant_map f x p (suc n) same = ap₂ (λ y ys. y ∷ ys) (sym (same p)) (constant_map f x (p + 1) n same)

pub first_tally : (actors lines : ℕ) (counts : List Count) (ended : List Bool) → counts ≡ replicate actors no_count → ended ≡ replicate lines false → record { counts = counts; ended = ended } ≡ tally_of actors lines []
first_tally actors lines counts ended is are =
    ap₂ tally_with (is ∙ constant_map (λ a. count_of a []) no_count 0 actors (λ i. refl)) (are ∙ constant_map (λ l. has_ended l []) false 0 lines (λ i. refl))
  where
    tally_with : List Count → List Bool → Tally
    tally_with cs es = record { counts = cs; ended = es }

-- ---- counts

pub count_at : (n : ℕ) (past : List Entry) (counts : List Count) (actor : ℕ) → counts ≡ counts_of n past → actor < length counts → slice_get counts actor ≡ Some (count_of actor past)
count_at n past counts actor is lt =
    let f : ℕ → Count = λ a. count_of a past in
    let long : length counts ≡ n = ap length is ∙ length-map-range_with_len f 0 n in
    slice_get-get_or counts actor (count_of actor past) lt
    ∙ ap (λ xs. Some (get_or xs actor (count_of actor past))) is
    ∙ ap (λ x. Some x) (get_or-map-range_with_len f 0 n actor actor (count_of actor past) (omega (arith, long, lt)) (omega arith))

pub count_is : (n : ℕ) (past : List Entry) (counts : List Count) (actor : ℕ) (count : Count) → counts ≡ counts_of n past → slice_get counts actor ≡ Some count → count ≡ count_of actor past
count_is n past counts actor count is get =
    let at : slice_get counts actor ≡ Some (count_of actor past) = count_at n past counts actor is (slice_get_within counts actor count get) in
    cc (get, at)

own_count : (e : Entry) (past : List Entry) → count_of e.actor (e ∷ past) ≡ count_after e.what (count_of e.actor past)
own_count e past = ap (λ b. if b then count_after e.what (count_of e.actor past) else count_of e.actor past) (eq-eqb e.actor e.actor refl)

other_count : (e : Entry) (past : List Entry) (a : ℕ) → (a ≡ e.actor → ⊥) → count_of a (e ∷ past) ≡ count_of a past
other_count e past a other = ap (λ b. if b then count_after e.what (count_of a past) else count_of a past) (ne_eqb e.actor a (λ is. other (sym is)))

pub counts_next : (n : ℕ) (e : Entry) (past : List Entry) (counts after : List Count) (next : Count) → counts ≡ counts_of n past → e.actor < n → next ≡ count_after e.what (count_of e.actor past)
    → after ≡ slice_set counts e.actor next → after ≡ counts_of n (e ∷ past)
counts_next n e past counts after next is lt count set =
    set
    ∙ ap₂ (λ xs x. slice_set xs e.actor x) is (count ∙ sym (own_count e past))
    ∙ set_one (λ a. count_of a past) (λ a. count_of a (e ∷ past)) 0 n e.actor e.actor (omega arith) lt (other_count e past)

-- ---- lines

unended : (b h : Bool) → (b && false || h) ≡ h
unended true h = refl
unended false h = refl

-- an entry that ends no line leaves them
pub ends_stay : (n : ℕ) (e : Entry) (past : List Entry) (ended : List Bool) → ends_line e.what ≡ false → ended ≡ ends_of n past → ended ≡ ends_of n (e ∷ past)
ends_stay n e past ended ends is =
    is ∙ sym (all_same (λ line. has_ended line past) (λ line. has_ended line (e ∷ past)) 0 n
    (λ line. ap (λ b. (e.line == line && b || has_ended line past)) ends ∙ unended (e.line == line) (has_ended line past)))

other_line : (e : Entry) (past : List Entry) (line : ℕ) → (line ≡ e.line → ⊥) → has_ended line (e ∷ past) ≡ has_ended line past
other_line e past line other = ap (λ b. (b && ends_line e.what || has_ended line past)) (ne_eqb e.line line (λ is. other (sym is)))

own_line : (e : Entry) (past : List Entry) → ends_line e.what ≡ true → has_ended e.line (e ∷ past) ≡ true
own_line e past ends = ap₂ (λ a b. (a && b || has_ended e.line past)) (eq-eqb e.line e.line refl) ends

pub ends_next : (n : ℕ) (e : Entry) (past : List Entry) (ended after : List Bool) → ends_line e.what ≡ true → e.line < n → ended ≡ ends_of n past → after ≡ slice_set ended e.line true → after ≡ ends_of n (e ∷ past)
ends_next n e past ended after ends lt is set =
    set
    ∙ ap₂ (λ xs x. slice_set xs e.line x) is (sym (own_line e past ends))
    ∙ set_one (λ line. has_ended line past) (λ line. has_ended line (e ∷ past)) 0 n e.line e.line (omega arith) lt (other_line e past)

pub ends_past : (n : ℕ) (e : Entry) (past : List Entry) (ended : List Bool) → n ≤ e.line → ended ≡ ends_of n past → ended ≡ ends_of n (e ∷ past)
ends_past n e past ended le is =
    is ∙ set_none (λ line. has_ended line past) (λ line. has_ended line (e ∷ past)) e.line 0 n (omega (arith, le)) (other_line e past)

pub end_at : (n : ℕ) (past : List Entry) (ended : List Bool) (line : ℕ) → ended ≡ ends_of n past → line < length ended → slice_get ended line ≡ Some (has_ended line past)
end_at n past ended line is lt =
    let f : ℕ → Bool = λ l. has_ended l past in
    let long : length ended ≡ n = ap length is ∙ length-map-range_with_len f 0 n in
    slice_get-get_or ended line (has_ended line past) lt
    ∙ ap (λ xs. Some (get_or xs line (has_ended line past))) is
    ∙ ap (λ x. Some x) (get_or-map-range_with_len f 0 n line line (has_ended line past) (omega (arith, long, lt)) (omega arith))

pub end_is : (n : ℕ) (past : List Entry) (ended : List Bool) (line : ℕ) (mark : Bool) → ended ≡ ends_of n past → slice_get ended line ≡ Some mark → mark ≡ has_ended line past
end_is n past ended line mark is get =
    let at : slice_get ended line ≡ Some (has_ended line past) = end_at n past ended line is (slice_get_within ended line mark get) in
    cc (get, at)

-- ---- one entry on

below : (m n : ℕ) → (m < n) ⊎ (n ≤ m)
below zero zero = inr (omega arith)
below zero (suc n) = inl (omega arith)
below (suc m) zero = inr (omega arith)
below (suc m) (suc n) = later (below m n)
  where
    later : (m < n) ⊎ (n ≤ m) → (suc m < suc n) ⊎ (suc n ≤ suc m)
    later (inl less) = inl (omega (arith, less))
    later (inr most) = inr (omega (arith, most))

-- the count of the entry's actor is put in its place
pub counted : (n : ℕ) (e : Entry) (past : List Entry) (counts after : List Count) (count next : Count) → slice_get counts e.actor ≡ Some count → next ≡ count_after e.what count
    → after ≡ slice_set counts e.actor next → counts ≡ counts_of n past → after ≡ counts_of n (e ∷ past)
counted n e past counts after count next get step set is =
    let long : length counts ≡ n = ap length is ∙ length-map-range_with_len (λ a. count_of a past) 0 n in
    let lt : e.actor < length counts = slice_get_within counts e.actor count get in
    counts_next n e past counts after next is (omega (arith, long, lt)) (step ∙ ap (count_after e.what) (count_is n past counts e.actor count is get)) set

-- the entry's line is marked, where it is one of those that are kept
pub marked : (n : ℕ) (e : Entry) (past : List Entry) (ended after : List Bool) → ends_line e.what ≡ true → (e.line < length ended → after ≡ slice_set ended e.line true)
    → (length ended ≤ e.line → after ≡ ended) → ended ≡ ends_of n past → after ≡ ends_of n (e ∷ past)
marked n e past ended after ends within behind is = by_place (below e.line (length ended))
  where
    long : length ended ≡ n
    long = ap length is ∙ length-map-range_with_len (λ l. has_ended l past) 0 n

    by_place : (e.line < length ended) ⊎ (length ended ≤ e.line) → after ≡ ends_of n (e ∷ past)
    by_place (inl less) = ends_next n e past ended after ends (omega (arith, less, long)) is (within less)
    by_place (inr most) = behind most ∙ ends_past n e past ended (omega (arith, most, long)) is
