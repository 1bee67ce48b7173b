-- The weights of each priority, added up over localities in ascending priority.
use Rattle.std.proofs.Common.{◌≡◌, ℕ, ◌<◌, ◌≤◌, ◌+◌, ◌^◌, ◌⊎◌, inl, inr, List, [], ◌∷◌, Bool, true, false, cond, refl, sym, ap, ◌∙◌, subst, arith, eqb-true, eq-eqb, ltb-true, lt-ltb, AllPairs, length, get_or, drop, drop-cons, drop_of_length-le, suc}
use Rattle.std.specs.Prelude.{◌==◌, ◌&&◌, nat_lt, sum, map}
use Rattle.std.specs.List.{list_all}
use Rattle.std.proofs.lemmas.List.Sums.{sum_by-cons}
use Rattle.xds_config.specs.declared.endpoint_values.Locality.{Locality}
use Rattle.xds_config.specs.Endpoints.{priority_weights}
use Rattle.check_clusters.specs.Assignments.{have_weights}
use Rattle.check_clusters.proofs.TestLemmas.{same_test, both, both_true}
use Rattle.check_clusters.proofs.OrderLemmas.{AtLeast, Ascends, of_priority, none_below, ascends_from}

-- the weight of a priority
abbrev pub total : ℕ → List Locality → ℕ
total p ls = sum (priority_weights p ls)

abbrev pub is_in_range : ℕ → Bool
is_in_range weight = nat_lt weight (2 ^ 32)

-- what a priority is known to weigh, where the last one came to this much
abbrev pub carried : ℕ → ℕ → ℕ → ℕ
carried p last so_far = cond (p == last) so_far 0

abbrev pub next_sum : ℕ → ℕ → Locality → ℕ
next_sum last so_far l = carried l.priority last so_far + l.weight

-- no sum is out of range
abbrev pub fits_from : ℕ → ℕ → List Locality → Bool
fits_from last so_far [] = true
fits_from last so_far (l ∷ ls) = is_in_range (next_sum last so_far l) && fits_from l.priority (next_sum last so_far l) ls

total_at : (b : Bool) (p : ℕ) (l : Locality) (ls : List Locality) → sum (map (λ m. m.weight) (cond b (l ∷ of_priority p ls) (of_priority p ls))) ≡ cond b l.weight 0 + total p ls
total_at true p l ls = sum_by-cons (λ (x : ℕ). x) l.weight (priority_weights p ls)
total_at false p l ls = omega arith

pub total_cons : (p : ℕ) (l : Locality) (ls : List Locality) → total p (l ∷ ls) ≡ cond (l.priority == p) l.weight 0 + total p ls
total_cons p l ls = total_at (l.priority == p) p l ls

total_none : (p n : ℕ) (ls : List Locality) → p < n → AtLeast n ls → total p ls ≡ 0
total_none p n ls below h = ap (λ (ms : List Locality). sum (map (λ m. m.weight) ms)) (none_below p n ls below h)

turned : (m n : ℕ) → (m == n) ≡ (n == m)
turned m n = same_test (m == n) (n == m) (λ e. eq-eqb n m (sym (eqb-true m n e))) (λ e. eq-eqb m n (sym (eqb-true n m e)))

-- ---- where no sum is out of range, no weight of a priority is

sound_step : (a b : Bool) (p last so_far : ℕ) (l : Locality) (ls : List Locality) → (l.priority == p) ≡ a → (p == last) ≡ b
    → last ≤ l.priority → AtLeast l.priority ls → so_far < 2 ^ 32
    → carried p l.priority (next_sum last so_far l) + total p ls < 2 ^ 32
    → cond b so_far 0 + (cond a l.weight 0 + total p ls) < 2 ^ 32
sound_step true b p last so_far l ls of_l of_last low up small rest =
    let is : l.priority ≡ p = eqb-true l.priority p of_l in
    let first : carried p l.priority (next_sum last so_far l) ≡ next_sum last so_far l = ap (λ t. cond t (next_sum last so_far l) 0) (sym (turned l.priority p) ∙ of_l) in
    let known : carried l.priority last so_far ≡ cond b so_far 0 = ap (λ n. cond (n == last) so_far 0) is ∙ ap (λ t. cond t so_far 0) of_last in
    omega arith
sound_step false true p last so_far l ls of_l of_last low up small rest =
    let is : p ≡ last = eqb-true p last of_last in
    let other : l.priority ≡ p → ⊥ = λ e. absurd (let same = eq-eqb l.priority p e in cc) in
    let none : total p ls ≡ 0 = total_none p l.priority ls (omega (arith, other)) up in
    omega arith
sound_step false false p last so_far l ls of_l of_last low up small rest = omega arith

pub sound : (last so_far : ℕ) (ls : List Locality) → AtLeast last ls → Ascends ls → so_far < 2 ^ 32 → fits_from last so_far ls ≡ true
    → (p : ℕ) → carried p last so_far + total p ls < 2 ^ 32
sound last so_far [] low up small fits p = at (p == last)
  where
    at : (b : Bool) → cond b so_far 0 + 0 < 2 ^ 32
    at true = omega arith
    at false = omega arith
sound last so_far (l ∷ ls) low up small fits p =
    let sum_fits = both (is_in_range (next_sum last so_far l)) (fits_from l.priority (next_sum last so_far l) ls) fits in
    let rest = sound l.priority (next_sum last so_far l) ls up.0 up.1 (ltb-true (next_sum last so_far l) (2 ^ 32) sum_fits.0) sum_fits.1 p in
    subst (λ n. carried p last so_far + n < 2 ^ 32) (sym (total_cons p l ls)) (sound_step (l.priority == p) (p == last) p last so_far l ls refl refl low.0 up.0 small rest)

-- ---- and the other way

complete_at : (b : Bool) (p last so_far : ℕ) (l : Locality) (ls : List Locality) → (p == l.priority) ≡ b
    → next_sum last so_far l + total l.priority ls < 2 ^ 32 → total p ls < 2 ^ 32 → cond b (next_sum last so_far l) 0 + total p ls < 2 ^ 32
complete_at true p last so_far l ls is own other = subst (λ n. next_sum last so_far l + total n ls < 2 ^ 32) (sym (eqb-true p l.priority is)) own
complete_at false p last so_far l ls is own other = omega arith

pub complete : (last so_far : ℕ) (ls : List Locality) → ((p : ℕ) → carried p last so_far + total p ls < 2 ^ 32) → fits_from last so_far ls ≡ true
complete last so_far [] h = refl
complete last so_far (l ∷ ls) h =
    let at_own : total l.priority (l ∷ ls) ≡ l.weight + total l.priority ls =
    total_cons l.priority l ls ∙ ap (λ t. cond t l.weight 0 + total l.priority ls) (eq-eqb l.priority l.priority refl) in
    let own : next_sum last so_far l + total l.priority ls < 2 ^ 32 = let whole = h l.priority in omega arith in
    both_true (is_in_range (next_sum last so_far l)) (fits_from l.priority (next_sum last so_far l) ls) (lt-ltb (next_sum last so_far l) (2 ^ 32) (omega arith))
    (complete l.priority (next_sum last so_far l) ls
    (λ p. complete_at (p == l.priority) p last so_far l ls refl own (let whole = h p in let more = total_cons p l ls in omega arith)))

-- ---- the weights of each priority that is there

within : (p : ℕ) (whole ls : List Locality) → list_all (λ l. is_in_range (total l.priority whole)) ls ≡ true → (total p ls ≡ 0) ⊎ (total p whole < 2 ^ 32)
within p whole [] h = inl refl
within p whole (l ∷ ls) h =
    let fits = both (is_in_range (total l.priority whole)) (list_all (λ m. is_in_range (total m.priority whole)) ls) h in
    at (l.priority == p) refl fits.0 (within p whole ls fits.1)
  where
    at : (b : Bool) → (l.priority == p) ≡ b → is_in_range (total l.priority whole) ≡ true → (total p ls ≡ 0) ⊎ (total p whole < 2 ^ 32)
        → (total p (l ∷ ls) ≡ 0) ⊎ (total p whole < 2 ^ 32)
    at true is fits rest = inr (subst (λ n. total n whole < 2 ^ 32) (eqb-true l.priority p is) (ltb-true (total l.priority whole) (2 ^ 32) fits))
    at false is fits (inl none) = inl (
        let whole_is : total p (l ∷ ls) ≡ cond (l.priority == p) l.weight 0 + total p ls = total_cons p l ls in
        let nothing : cond (l.priority == p) l.weight 0 ≡ 0 = ap (λ t. cond t l.weight 0) is in
        omega arith)
    at false is fits (inr less) = inr less

pub all_within : (ls : List Locality) → have_weights ls ≡ true → (p : ℕ) → total p ls < 2 ^ 32
all_within ls h p = at (within p ls ls h)
  where
    at : (total p ls ≡ 0) ⊎ (total p ls < 2 ^ 32) → total p ls < 2 ^ 32
    at (inl none) = omega arith
    at (inr less) = less

each_within : (whole ls : List Locality) → ((p : ℕ) → total p whole < 2 ^ 32) → list_all (λ l. is_in_range (total l.priority whole)) ls ≡ true
each_within whole [] h = refl
each_within whole (l ∷ ls) h =
    both_true (is_in_range (total l.priority whole)) (list_all (λ m. is_in_range (total m.priority whole)) ls) (lt-ltb (total l.priority whole) (2 ^ 32) (h l.priority)) (each_within whole ls h)

at_least_zero : (ls : List Locality) → AtLeast 0 ls
at_least_zero [] = tt
at_least_zero (l ∷ ls) = (omega arith, at_least_zero ls)

-- the sums tell what the definition says
pub fits : (ls : List Locality) → Ascends ls → fits_from 0 0 ls ≡ have_weights ls
fits ls up =
    same_test (fits_from 0 0 ls) (have_weights ls)
    (λ h. each_within ls ls (λ p. let at = sound 0 0 ls (at_least_zero ls) up (omega arith) h p in omega arith))
    (λ h. complete 0 0 ls (λ p. begin (p == 0) p (all_within ls h p)))
  where
    begin : (b : Bool) (p : ℕ) → total p ls < 2 ^ 32 → cond b 0 0 + total p ls < 2 ^ 32
    begin true p less = omega arith
    begin false p less = omega arith

-- ---- where adding up ends

heavy : (b : Bool) (sum : ℕ) → 2 ^ 32 ≤ sum → (is_in_range sum && b) ≡ false
heavy b sum much = at (is_in_range sum) refl
  where
    at : (c : Bool) → is_in_range sum ≡ c → (c && b) ≡ false
    at true is = absurd (let low = ltb-true sum (2 ^ 32) is in omega arith)
    at false is = refl

pub too_heavy : (ls : List Locality) (i last so_far sum : ℕ) (l : Locality) → AllPairs (λ a b. a.priority ≤ b.priority) ls → i < length ls → l ≡ get_or ls i l
    → sum ≡ next_sum last so_far l → 2 ^ 32 ≤ sum → fits_from last so_far (drop i ls) ≡ fits_from 0 0 ls → false ≡ have_weights ls
too_heavy ls i last so_far sum l up lt is sum_is much rest =
    sym (ap (fits_from last so_far) (drop-cons ls i l lt)
    ∙ heavy (fits_from (get_or ls i l).priority (next_sum last so_far (get_or ls i l)) (drop (suc i) ls)) (next_sum last so_far (get_or ls i l))
    (subst (λ n. 2 ^ 32 ≤ n) (sum_is ∙ ap (next_sum last so_far) is) much))
    ∙ rest
    ∙ fits ls (ascends_from ls up)

pub all_fit : (ls : List Locality) (i last so_far : ℕ) → AllPairs (λ a b. a.priority ≤ b.priority) ls → length ls ≤ i → fits_from last so_far (drop i ls) ≡ fits_from 0 0 ls → true ≡ have_weights ls
all_fit ls i last so_far up all rest = sym (ap (fits_from last so_far) (drop_of_length-le ls all)) ∙ rest ∙ fits ls (ascends_from ls up)
