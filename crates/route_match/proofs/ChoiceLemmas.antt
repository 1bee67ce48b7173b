-- The cluster that a draw chooses by weight.
use Rattle.std.proofs.Common.{◌≡◌, ℕ, suc, ◌+◌, ◌*◌, ◌/◌, ◌^◌, ◌<◌, ◌≤◌, List, length, take, get_or, sum, Option, sym, ap, ◌∙◌, arith, lit<}
use Rattle.std.proofs.Math.Nat.{div-lt_iff_lt-mul, mul-lt-mul_of_pos_right}
use Rattle.std.proofs.lemmas.List.{length-map, get_or-map}
use Rattle.std.proofs.lemmas.List.Sums.{sum_by_more, sum_by-take-le}
use Rattle.std.specs.Prelude.{unwrap_or}
use Rattle.xds_config.specs.declared.route_values.Weighted.{Weighted}
use Rattle.xds_config.specs.RouteValues.{weights_of}
use Rattle.weight_pick.specs.Weights.{place_by_weight}
use Rattle.weight_pick.proofs.WeightLemmas.{first_above}

-- the sum of the weights up to one more
pub sum_more : (cs : List Weighted) (i : ℕ) (c : Weighted) → i < length cs → c ≡ get_or cs i c → sum (take (i + 1) (weights_of cs)) ≡ sum (take i (weights_of cs)) + c.weight
sum_more cs i c lt is =
    let size = length-map cs (λ (w : Weighted). w.weight) in
    sum_by_more (λ (x : ℕ). x) (weights_of cs) i 0 (omega arith)
    ∙ ap (λ (n : ℕ). sum (take i (weights_of cs)) + n) (get_or-map (λ (w : Weighted). w.weight) cs i c 0 lt ∙ sym (ap (λ (w : Weighted). w.weight) is))

pub sum_within : (cs : List Weighted) (i : ℕ) → sum (take i (weights_of cs)) ≤ sum (weights_of cs)
sum_within cs i = sum_by-take-le (λ (x : ℕ). x) (weights_of cs) i

pub chosen_here : (cs : List Weighted) (draw target i : ℕ) → i < length cs → target ≡ draw * sum (weights_of cs) / 2 ^ 32
    → sum (take i (weights_of cs)) ≤ target → target < sum (take (i + 1) (weights_of cs)) → i ≡ place_by_weight (weights_of cs) draw
chosen_here cs draw target i lt is below above =
    let size = length-map cs (λ (w : Weighted). w.weight) in
    let one : i + 1 ≡ suc i = omega arith in
    let next : sum (take (i + 1) (weights_of cs)) ≡ sum (take (suc i) (weights_of cs)) = ap (λ (n : ℕ). sum (take n (weights_of cs))) one in
    sym (ap (λ (o : Option ℕ). unwrap_or o 0) (first_above (weights_of cs) (draw * sum (weights_of cs) / 2 ^ 32) i (omega arith) (omega arith) (omega arith)))

-- a draw of 32 bits is brought below the sum
pub drawn_below : (draw total target : ℕ) → draw < 2 ^ 32 → 0 < total → target ≡ draw * total / 2 ^ 32 → target < total
drawn_below draw total target lt some is =
    let product = mul-lt-mul_of_pos_right lt some in
    let apart : draw * total < total * 2 ^ 32 = omega arith in
    let whole : 0 < 2 ^ 32 = lit< tt in
    rw is ((div-lt_iff_lt-mul whole).1 apart)
