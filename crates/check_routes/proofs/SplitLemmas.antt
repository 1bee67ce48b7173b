-- The weights of a split, one after another.
use Rattle.std.proofs.Common.{◌≡◌, ℕ, ◌<◌, ◌≤◌, ◌+◌, ◌^◌, List, [], ◌∷◌, ◌++◌, length, take, get_or, sum, false, sym, ap, ◌∙◌, arith}
use Rattle.std.proofs.lemmas.Bool.Decides.{nat_tests}
use Rattle.std.proofs.lemmas.List.{map-append, take-map, take_more, take_all}
use Rattle.std.proofs.lemmas.List.Sums.{sum_by-append, sum_by-cons, sum_by-take-le}
use Rattle.std.specs.Prelude.{nat_lt}
use Rattle.xds_config.specs.declared.route_values.Weighted.{Weighted}
use Rattle.xds_config.specs.RouteValues.{weights_of}
use Rattle.check_routes.specs.RouteTable.{can_be_chosen}

pushed : (done : List Weighted) (x : Weighted) → sum (weights_of (done ++ x ∷ [])) ≡ sum (weights_of done) + x.weight
pushed done x =
    let both : sum (weights_of (done ++ x ∷ [])) ≡ sum (weights_of done ++ x.weight ∷ []) = ap sum (map-append (λ (c : Weighted). c.weight) done (x ∷ [])) in
    let parts : sum (weights_of done ++ x.weight ∷ []) ≡ sum (weights_of done) + sum (x.weight ∷ []) = sum_by-append (λ (n : ℕ). n) (weights_of done) (x.weight ∷ []) in
    let last : sum (x.weight ∷ []) ≡ x.weight + sum [] = sum_by-cons (λ (n : ℕ). n) x.weight [] in
    omega arith

-- the sum with one more weight
pub weights_more : (clusters : List Weighted) (i : ℕ) (x : Weighted) → i < length clusters → x ≡ get_or clusters i x → sum (weights_of (take (i + 1) clusters)) ≡ sum (weights_of (take i clusters)) + x.weight
weights_more clusters i x lt is =
    ap (λ (cs : List Weighted). sum (weights_of cs)) (take_more clusters i x lt)
    ∙ (ap (λ (y : Weighted). sum (weights_of (take i clusters ++ y ∷ []))) (sym is) ∙ pushed (take i clusters) x)

up_to : (clusters : List Weighted) (i : ℕ) → sum (weights_of (take i clusters)) ≤ sum (weights_of clusters)
up_to clusters i =
    let part : sum (take i (weights_of clusters)) ≤ sum (weights_of clusters) = sum_by-take-le (λ (n : ℕ). n) (weights_of clusters) i in
    let same : sum (take i (weights_of clusters)) ≡ sum (weights_of (take i clusters)) = ap sum (take-map (λ (c : Weighted). c.weight) i clusters) in
    omega arith

-- a sum that is past 32 bits stays so
pub too_much : (clusters : List Weighted) (i : ℕ) (x : Weighted) (before : ℕ) → i < length clusters → x ≡ get_or clusters i x → before ≡ sum (weights_of (take i clusters)) → 2 ^ 32 ≤ before + x.weight
    → false ≡ can_be_chosen clusters
too_much clusters i x before lt is so_far past =
    let more = weights_more clusters i x lt is in
    let le = up_to clusters (i + 1) in
    grind (arith, nat_tests)

pub all_weights : (clusters : List Weighted) (i : ℕ) (total : ℕ) → length clusters ≤ i → total ≡ sum (weights_of (take i clusters)) → total < 2 ^ 32 → nat_lt 0 total ≡ can_be_chosen clusters
all_weights clusters i total le is fits =
    let whole : sum (weights_of (take i clusters)) ≡ sum (weights_of clusters) = ap (λ (cs : List Weighted). sum (weights_of cs)) (take_all i clusters le) in
    grind (arith, nat_tests)
