-- Cumulated weights: their members, their last, and the first that is above a number.
use Rattle.std.proofs.Common.{◌≡◌, ℕ, zero, suc, ◌+◌, ◌-◌, ◌*◌, ◌/◌, ◌^◌, ◌<◌, ◌≤◌, List, [], ◌∷◌, ◌++◌, length, take, get_or, map, true, Option, Some, sum, refl, sym, ap, ◌∙◌, arith, zero-add}
use Rattle.std.proofs.lemmas.Bool.Decides.{nat_tests}
use Rattle.std.proofs.lemmas.List.{length-map, map-append, get_or-map, take_all, take-take, take_more}
use Rattle.std.proofs.lemmas.List.Quantifiers.{position-Some}
use Rattle.std.proofs.lemmas.List.Sums.{sum_by-cons, sum_by-take-le, position_or_len_is}
use Rattle.std.specs.Prelude.{nat_lt, position, unwrap_or}
use Rattle.std.specs.List.{position_or_len}
use Rattle.weight_pick.specs.Weights.{cumulated, place_by_weight, AreSums}

pub length-cumulated : (ws : List ℕ) → length (cumulated ws) ≡ length ws
length-cumulated [] = refl
length-cumulated (w ∷ ws) = ap suc (length-map (cumulated ws) (λ s. w + s) ∙ length-cumulated ws)

-- one more weight adds the sum of all
pub cumulated_push : (ws : List ℕ) (x : ℕ) → cumulated (ws ++ x ∷ []) ≡ cumulated ws ++ (sum ws + x) ∷ []
cumulated_push [] x = ap (λ (n : ℕ). n ∷ []) (sym (zero-add x))
cumulated_push (w ∷ ws) x =
    ap (λ (t : List ℕ). w ∷ map (λ s. w + s) t) (cumulated_push ws x)
    ∙ (ap (λ (t : List ℕ). w ∷ t) (map-append (λ s. w + s) (cumulated ws) ((sum ws + x) ∷ []))
    ∙ ap (λ (n : ℕ). (w ∷ map (λ s. w + s) (cumulated ws)) ++ n ∷ []) (let cons = sum_by-cons (λ (y : ℕ). y) w ws in omega arith))

-- the member at a place is the sum of the weights up to it
pub get_or-cumulated : (ws : List ℕ) (i : ℕ) → i < length ws → get_or (cumulated ws) i 0 ≡ sum (take (suc i) ws)
get_or-cumulated [] i lt = absurd (omega arith)
get_or-cumulated (w ∷ ws) zero lt = sym (zero-add w)
get_or-cumulated (w ∷ ws) (suc i) lt =
    let within : i < length (cumulated ws) = rw length-cumulated (omega arith) in
    let here = get_or-map (λ s. w + s) (cumulated ws) i 0 0 within in
    let rest = get_or-cumulated ws i (omega arith) in
    let cons = sum_by-cons (λ (y : ℕ). y) w (take (suc i) ws) in
    omega arith

-- the last of them is the sum of all
pub last-cumulated : (ws : List ℕ) → 0 < length ws → get_or (cumulated ws) (length ws - 1) 0 ≡ sum ws
last-cumulated ws some =
    let whole : suc (length ws - 1) ≡ length ws = omega arith in
    get_or-cumulated ws (length ws - 1) (omega arith) ∙ (ap (λ (n : ℕ). sum (take n ws)) whole ∙ ap sum (take_all (length ws) ws (omega arith)))

sum_up_to : (ws : List ℕ) (k i : ℕ) → k ≤ i → sum (take k ws) ≤ sum (take i ws)
sum_up_to ws k i le =
    let part = sum_by-take-le (λ (y : ℕ). y) (take i ws) k in
    let same = ap sum (take-take k i ws le) in
    omega arith

-- the first member above a number is at the place up to which the sum isn't above it, and with which it is
pub first_above : (ws : List ℕ) (target i : ℕ) → i < length ws → sum (take i ws) ≤ target → target < sum (take (suc i) ws) → position (λ s. nat_lt target s) (cumulated ws) ≡ Some i
first_above ws target i lt below above =
    let size = length-cumulated ws in
    let at : position_or_len (λ s. nat_lt target s) (cumulated ws) ≡ i =
    position_or_len_is (λ s. nat_lt target s) (cumulated ws) i 0 (omega arith)
    (λ k before. let member = get_or-cumulated ws k (omega arith) in let order = sum_up_to ws (suc k) i (omega arith) in grind (arith, nat_tests))
    (λ _. let member = get_or-cumulated ws i lt in grind (arith, nat_tests)) in
    let inside : nat_lt i (length (cumulated ws)) ≡ true = grind (arith, nat_tests) in
    rw (at, inside) refl

some_weight : (ws : List ℕ) → 0 < sum ws → 0 < length ws
some_weight [] h = h
some_weight (w ∷ ws) h = omega arith

pub some_sum : (sums : List ℕ) → AreSums sums → 0 < length sums
some_sum sums h =
    let some = some_weight h.weights h.sound.some in
    let size = length-cumulated h.weights in
    let same = ap length h.cumulate in
    omega arith

pub few_sums : (sums : List ℕ) → AreSums sums → length sums < 2 ^ 31
few_sums sums h =
    let few = h.few in
    let size = length-cumulated h.weights in
    let same = ap length h.cumulate in
    omega arith

-- the last of the sums is the sum of whichever weights they are of
pub last_sum : (sums ws : List ℕ) → sums ≡ cumulated ws → 0 < length sums → get_or sums (length sums - 1) 0 ≡ sum ws
last_sum sums ws is some =
    let size : length sums ≡ length ws = ap length is ∙ length-cumulated ws in
    ap (λ (t : List ℕ). get_or t (length sums - 1) 0) is ∙ (ap (λ (n : ℕ). get_or (cumulated ws) (n - 1) 0) size ∙ last-cumulated ws (omega arith))

pub last_sum_below : (sums : List ℕ) → AreSums sums → get_or sums (length sums - 1) 0 < 2 ^ 32
last_sum_below sums h =
    let last = last_sum sums h.weights h.cumulate (some_sum sums h) in
    let below = h.sound.below in
    omega arith

-- the cumulated weights of one more
pub cumulated_more : (ws : List ℕ) (i x s : ℕ) → i < length ws → x ≡ get_or ws i 0 → s ≡ sum (take i ws) → cumulated (take (i + 1) ws) ≡ cumulated (take i ws) ++ (s + x) ∷ []
cumulated_more ws i x s lt is e =
    ap cumulated (take_more ws i 0 lt) ∙ (cumulated_push (take i ws) (get_or ws i 0) ∙ ap (λ (n : ℕ). cumulated (take i ws) ++ n ∷ []) (omega arith))

pub place_found : (sums ws : List ℕ) (last draw target : ℕ) (place : Option ℕ) → sums ≡ cumulated ws → last ≡ sum ws → target ≡ draw * last / 2 ^ 32 → place ≡ position (λ s. nat_lt target s) sums → unwrap_or place 0 ≡ place_by_weight ws draw
place_found sums ws last draw target place is whole cut found =
    ap (λ (o : Option ℕ). unwrap_or o 0) found
    ∙ (ap (λ (t : List ℕ). unwrap_or (position (λ s. nat_lt target s) t) 0) is
    ∙ ap (λ (n : ℕ). unwrap_or (position (λ s. nat_lt n s) (cumulated ws)) 0) (cut ∙ ap (λ (n : ℕ). draw * n / 2 ^ 32) whole))

pub place_within : (sums : List ℕ) (target : ℕ) (place : Option ℕ) (i : ℕ) → place ≡ position (λ s. nat_lt target s) sums → place ≡ Some i → i < length sums
place_within sums target place i found is = (position-Some (λ s. nat_lt target s) sums i 0 (sym found ∙ is)).0
