-- Localities in ascending priority, and that a stable sort gives those of `by_priority`.
use Rattle.std.proofs.Common.{◌≡◌, ℕ, zero, suc, ◌<◌, ◌≤◌, List, [], ◌∷◌, length, get_or, Bool, true, false, cond, refl, sym, ap, ◌∙◌, arith, eqb-true, ne_eqb, eq-eqb, leb-true, leb-false, ltb-true, ltb-false, AllPairs, nat_cmp, is_lt, Less, Equal, Greater}
use Rattle.std.proofs.lemmas.List.Elements.{filter_agree}
use Rattle.std.proofs.lemmas.List.Kept.{AllPairs-cons}
use Rattle.std.proofs.lemmas.List.Sorted.{IsPermutation-refl, IsPermutation-cons, IsPermutation-trans, IsPermutation-middle, IsPermutation-sym}
use Rattle.std.specs.List.Sorted.{IsPermutation, IsNonDecreasingBy, IsStableByKey, ties}
use Rattle.std.specs.Prelude.{◌==◌, ◌&&◌, not, nat_le, nat_lt, filter, if◌then◌else◌}
use Rattle.xds_config.specs.declared.endpoint_values.Locality.{Locality}
use Rattle.check_clusters.specs.Assignments.{put, by_priority}

-- no priority is below n
abbrev pub AtLeast : ℕ → List Locality → Type 0
AtLeast n [] = Unit {0}
AtLeast n (l ∷ ls) = (n ≤ l.priority) × AtLeast n ls

abbrev pub Ascends : List Locality → Type 0
Ascends [] = Unit {0}
Ascends (l ∷ ls) = AtLeast l.priority ls × Ascends ls

-- the localities of a priority
abbrev pub of_priority : ℕ → List Locality → List Locality
of_priority p ls = filter (λ l. l.priority == p) ls

pub at_least_more : (m n : ℕ) (ls : List Locality) → m ≤ n → AtLeast n ls → AtLeast m ls
at_least_more m n [] below h = tt
at_least_more m n (l ∷ ls) below h = (omega (arith, h.0), at_least_more m n ls below h.1)

skips : (b : Bool) (p : ℕ) (l : Locality) (ls : List Locality) → (l.priority == p) ≡ b → p < l.priority → of_priority p ls ≡ [] → cond b (l ∷ of_priority p ls) (of_priority p ls) ≡ []
skips true p l ls is below none = absurd (let e = eqb-true l.priority p is in omega arith)
skips false p l ls is below none = none

pub none_below : (p n : ℕ) (ls : List Locality) → p < n → AtLeast n ls → of_priority p ls ≡ []
none_below p n [] below h = refl
none_below p n (l ∷ ls) below h = skips (l.priority == p) p l ls refl (omega (arith, h.0)) (none_below p n ls below h.1)

-- ---- what `by_priority` gives

put_at_least_at : (b : Bool) (n : ℕ) (l m : Locality) (ms : List Locality) → n ≤ l.priority → AtLeast n (m ∷ ms) → AtLeast n (put l ms) → AtLeast n (if b then l ∷ m ∷ ms else m ∷ put l ms)
put_at_least_at true n l m ms low h more = (low, h)
put_at_least_at false n l m ms low h more = (h.0, more)

put_at_least : (n : ℕ) (l : Locality) (ls : List Locality) → n ≤ l.priority → AtLeast n ls → AtLeast n (put l ls)
put_at_least n l [] low h = (low, tt)
put_at_least n l (m ∷ ms) low h = put_at_least_at (nat_le l.priority m.priority) n l m ms low h (put_at_least n l ms low h.1)

put_ascends_at : (b : Bool) (l m : Locality) (ms : List Locality) → nat_le l.priority m.priority ≡ b → Ascends (m ∷ ms) → Ascends (put l ms) → Ascends (if b then l ∷ m ∷ ms else m ∷ put l ms)
put_ascends_at true l m ms is h more =
    let low : l.priority ≤ m.priority = leb-true l.priority m.priority is in
    ((low, at_least_more l.priority m.priority ms low h.0), h)
put_ascends_at false l m ms is h more =
    let high : m.priority < l.priority = leb-false l.priority m.priority is in
    (put_at_least m.priority l ms (omega arith) h.0, more)

put_ascends : (l : Locality) (ls : List Locality) → Ascends ls → Ascends (put l ls)
put_ascends l [] h = (tt, tt)
put_ascends l (m ∷ ms) h = put_ascends_at (nat_le l.priority m.priority) l m ms refl h (put_ascends l ms h.1)

pub by_priority_ascends : (ls : List Locality) → Ascends (by_priority ls)
by_priority_ascends [] = tt
by_priority_ascends (l ∷ ls) = put_ascends l (by_priority ls) (by_priority_ascends ls)

-- ---- each priority keeps its localities in their order

swapped : (a b : Bool) (p : ℕ) (l m : Locality) (ms : List Locality) → (l.priority == p) ≡ a → (m.priority == p) ≡ b → m.priority < l.priority
    → cond b (m ∷ cond a (l ∷ of_priority p ms) (of_priority p ms)) (cond a (l ∷ of_priority p ms) (of_priority p ms))
    ≡ cond a (l ∷ cond b (m ∷ of_priority p ms) (of_priority p ms)) (cond b (m ∷ of_priority p ms) (of_priority p ms))
swapped true true p l m ms of_l of_m below = absurd (let e = eqb-true l.priority p of_l in let f = eqb-true m.priority p of_m in omega arith)
swapped true false p l m ms of_l of_m below = refl
swapped false b p l m ms of_l of_m below = refl

put_keeps_at : (b : Bool) (p : ℕ) (l m : Locality) (ms : List Locality) → nat_le l.priority m.priority ≡ b
    → of_priority p (put l ms) ≡ of_priority p (l ∷ ms)
    → of_priority p (if b then l ∷ m ∷ ms else m ∷ put l ms) ≡ of_priority p (l ∷ m ∷ ms)
put_keeps_at true p l m ms is more = refl
put_keeps_at false p l m ms is more =
    let high : m.priority < l.priority = leb-false l.priority m.priority is in
    ap (λ ls. cond (m.priority == p) (m ∷ ls) ls) more ∙ swapped (l.priority == p) (m.priority == p) p l m ms refl refl high

put_keeps : (p : ℕ) (l : Locality) (ls : List Locality) → of_priority p (put l ls) ≡ of_priority p (l ∷ ls)
put_keeps p l [] = refl
put_keeps p l (m ∷ ms) = put_keeps_at (nat_le l.priority m.priority) p l m ms refl (put_keeps p l ms)

pub by_priority_keeps : (p : ℕ) (ls : List Locality) → of_priority p (by_priority ls) ≡ of_priority p ls
by_priority_keeps p [] = refl
by_priority_keeps p (l ∷ ls) = put_keeps p l (by_priority ls) ∙ ap (λ ms. cond (l.priority == p) (l ∷ ms) ms) (by_priority_keeps p ls)

-- ---- ascending localities are known by those of each priority

itself : (n : ℕ) → (n == n) ≡ true
itself n = eq-eqb n n refl

own : (l : Locality) (ls : List Locality) → of_priority l.priority (l ∷ ls) ≡ l ∷ of_priority l.priority ls
own l ls = ap (λ b. cond b (l ∷ of_priority l.priority ls) (of_priority l.priority ls)) (itself l.priority)

not_below : (l m : Locality) (ls ms : List Locality) → AtLeast m.priority ms → ((p : ℕ) → of_priority p (l ∷ ls) ≡ of_priority p (m ∷ ms)) → l.priority < m.priority → ⊥
not_below l m ls ms h same below =
    let none : of_priority l.priority (m ∷ ms) ≡ [] = none_below l.priority m.priority (m ∷ ms) below (omega arith, h) in
    let one : l ∷ of_priority l.priority ls ≡ [] = sym (own l ls) ∙ same l.priority ∙ none in
    cc

neither : (m n : ℕ) → (m < n → ⊥) → (n < m → ⊥) → m ≡ n
neither m n below above = omega arith

rest_at : (a b : Bool) (l m : Locality) (ls ms : List Locality) → a ≡ b → cond a (l ∷ ls) ls ≡ cond b (m ∷ ms) ms → ls ≡ ms
rest_at true true l m ls ms is same = cc
rest_at true false l m ls ms is same = absurd (cc)
rest_at false true l m ls ms is same = absurd (cc)
rest_at false false l m ls ms is same = same

first_same : (l m : Locality) (ls ms : List Locality) → l.priority ≡ m.priority → ((p : ℕ) → of_priority p (l ∷ ls) ≡ of_priority p (m ∷ ms)) → l ≡ m
first_same l m ls ms is same =
    let left : of_priority l.priority (l ∷ ls) ≡ l ∷ of_priority l.priority ls = own l ls in
    let right : of_priority l.priority (m ∷ ms) ≡ m ∷ of_priority l.priority ms =
    ap (λ b. cond b (m ∷ of_priority l.priority ms) (of_priority l.priority ms)) (eq-eqb m.priority l.priority (sym is)) in
    let both : l ∷ of_priority l.priority ls ≡ m ∷ of_priority l.priority ms = sym left ∙ same l.priority ∙ right in
    cc

rests_same : (l m : Locality) (ls ms : List Locality) → l.priority ≡ m.priority → ((p : ℕ) → of_priority p (l ∷ ls) ≡ of_priority p (m ∷ ms)) → (p : ℕ) → of_priority p ls ≡ of_priority p ms
rests_same l m ls ms is same p = rest_at (l.priority == p) (m.priority == p) l m (of_priority p ls) (of_priority p ms) (ap (λ n. n == p) is) (same p)

pub only_one : (ls ms : List Locality) → Ascends ls → Ascends ms → ((p : ℕ) → of_priority p ls ≡ of_priority p ms) → ls ≡ ms
only_one [] [] hl hm same = refl
only_one [] (m ∷ ms) hl hm same = absurd (let one : [] ≡ m ∷ of_priority m.priority ms = same m.priority ∙ own m ms in cc)
only_one (l ∷ ls) [] hl hm same = absurd (let one : l ∷ of_priority l.priority ls ≡ [] = sym (own l ls) ∙ same l.priority in cc)
only_one (l ∷ ls) (m ∷ ms) hl hm same =
    let is : l.priority ≡ m.priority = neither l.priority m.priority (not_below l m ls ms hm.0 same) (not_below m l ms ls hl.0 (λ p. sym (same p))) in
    let first : l ≡ m = first_same l m ls ms is same in
    let rest : ls ≡ ms = only_one ls ms hl.1 hm.1 (rests_same l m ls ms is same) in
    ap (λ k. k ∷ ls) first ∙ ap (λ ks. m ∷ ks) rest

-- ---- from what a sort ensures

at_least_from : (n : ℕ) (ls : List Locality) → ((k : ℕ) (d : Locality) → k < length ls → n ≤ (get_or ls k d).priority) → AtLeast n ls
at_least_from n [] h = tt
at_least_from n (l ∷ ls) h = (h 0 l (omega arith), at_least_from n ls (λ k d lt. h (suc k) d (omega arith)))

pub ascends_from : (ls : List Locality) → AllPairs (λ a b. a.priority ≤ b.priority) ls → Ascends ls
ascends_from [] h = tt
ascends_from (l ∷ ls) h = (at_least_from l.priority ls (λ k d lt. h 0 (suc k) d (omega arith) (omega arith)), ascends_from ls (λ i j d lt within. h (suc i) (suc j) d (omega arith) (omega arith)))

each_at_least : (n : ℕ) (ls : List Locality) → AtLeast n ls → (k : ℕ) (d : Locality) → k < length ls → n ≤ (get_or ls k d).priority
each_at_least n [] h k d lt = absurd (omega arith)
each_at_least n (l ∷ ls) h zero d lt = h.0
each_at_least n (l ∷ ls) h (suc k) d lt = each_at_least n ls h.1 k d (omega arith)

pub all_ascend : (ls : List Locality) → Ascends ls → AllPairs (λ a b. a.priority ≤ b.priority) ls
all_ascend [] h = λ i j d lt within. absurd (omega arith)
all_ascend (l ∷ ls) h = AllPairs-cons (λ a b. a.priority ≤ b.priority) l ls (each_at_least l.priority ls h.0) (all_ascend ls h.1)

less_than : (m n : ℕ) → is_lt (nat_cmp m n) ≡ nat_lt m n
less_than m n = at (nat_lt m n) (m == n)
  where
    at : (a b : Bool) → is_lt (cond a Less (cond b Equal Greater)) ≡ a
    at true b = refl
    at false true = refl
    at false false = refl

neither_less : (a b : Bool) (m n : ℕ) → nat_lt m n ≡ a → nat_lt n m ≡ b → (not a && not b) ≡ (n == m)
neither_less true b m n less more = let lt = ltb-true m n less in sym (ne_eqb n m (λ e. omega arith))
neither_less false true m n less more = let lt = ltb-true n m more in sym (ne_eqb n m (λ e. omega arith))
neither_less false false m n less more = let le = ltb-false m n less in let ge = ltb-false n m more in sym (eq-eqb n m (omega arith))

tie : (p : ℕ) (l : Locality) → (not (is_lt (nat_cmp p l.priority)) && not (is_lt (nat_cmp l.priority p))) ≡ (l.priority == p)
tie p l = rw (less_than p l.priority, less_than l.priority p) (neither_less (nat_lt p l.priority) (nat_lt l.priority p) p l.priority refl refl)

some_of : ℕ → Locality
some_of p = record { id = record { region = []; zone = []; sub_zone = [] }; priority = p; weight = 0; addresses = [] }

kept : (p : ℕ) (ls ms : List Locality) → IsStableByKey (λ (l : Locality). l.priority) nat_cmp ls ms → of_priority p ms ≡ of_priority p ls
unfolding some_of
kept p ls ms stable =
    sym (filter_agree (ties (λ (a b : Locality). is_lt (nat_cmp a.priority b.priority)) (some_of p)) (λ l. l.priority == p) (tie p) ms)
    ∙ stable (some_of p)
    ∙ filter_agree (ties (λ (a b : Locality). is_lt (nat_cmp a.priority b.priority)) (some_of p)) (λ l. l.priority == p) (tie p) ls

pub sorted_is : (ls ms : List Locality) → IsNonDecreasingBy (λ l. l.priority) ms → IsStableByKey (λ (l : Locality). l.priority) nat_cmp ls ms → ms ≡ by_priority ls
sorted_is ls ms up stable =
    only_one ms (by_priority ls) (ascends_from ms (λ i j d lt within. up i j d (omega arith) within)) (by_priority_ascends ls) (λ p. kept p ls ms stable ∙ sym (by_priority_keeps p ls))

-- ---- none is left out

put_same_at : (b : Bool) (l m : Locality) (ms : List Locality) → IsPermutation (l ∷ ms) (put l ms) → IsPermutation (l ∷ m ∷ ms) (if b then l ∷ m ∷ ms else m ∷ put l ms)
put_same_at true l m ms more = IsPermutation-refl (l ∷ m ∷ ms)
put_same_at false l m ms more =
    IsPermutation-trans (l ∷ m ∷ ms) (m ∷ l ∷ ms) (m ∷ put l ms)
    (IsPermutation-sym (m ∷ l ∷ ms) (l ∷ m ∷ ms) (IsPermutation-middle (m ∷ []) l ms))
    (IsPermutation-cons m (l ∷ ms) (put l ms) more)

put_same : (l : Locality) (ls : List Locality) → IsPermutation (l ∷ ls) (put l ls)
put_same l [] = IsPermutation-refl (l ∷ [])
put_same l (m ∷ ms) = put_same_at (nat_le l.priority m.priority) l m ms (put_same l ms)

pub by_priority_same : (ls : List Locality) → IsPermutation ls (by_priority ls)
by_priority_same [] = IsPermutation-refl []
by_priority_same (l ∷ ls) =
    IsPermutation-trans (l ∷ ls) (l ∷ by_priority ls) (put l (by_priority ls)) (IsPermutation-cons l ls (by_priority ls) (by_priority_same ls)) (put_same l (by_priority ls))
