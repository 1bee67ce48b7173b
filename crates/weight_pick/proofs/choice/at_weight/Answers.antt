use Rattle.std.proofs.Common.{◌*◌, ◌/◌, ◌<◌, ◌^◌, ℕ, length, sym, ap, ◌∙◌, arith, Option}
use Rattle.std.specs.Prelude.{unwrap_or}
use Rattle.weight_pick.proofs.WeightLemmas.{some_sum, few_sums, last_sum, last_sum_below, place_found, place_within}
use Rattle.weight_pick.proofs.choice.at_weight.Goals as goal

pub last_of-requires : goal.last_of-requires
last_of-requires c = rw (c.as_slice-sums.ensures) (some_sum _ c.requires.sums)

pub overflow_mul-target : goal.overflow_mul-target
overflow_mul-target c =
    let below = rw (← c.as_slice-sums.ensures) at (last_sum_below _ c.requires.sums) in
    grind arith

pub overflow_cast-result : goal.overflow_cast-result
overflow_cast-result c =
    let at : c.in-Some.place < length c.as_slice-sums.result.now = place_within _ _ _ _ c.first_above.ensures c.in-Some.is in
    let few : length c.as_slice-sums.result.now < 2 ^ 31 = rw (c.as_slice-sums.ensures) (few_sums _ c.requires.sums) in
    omega arith

pub returns-in-Some-clause-within : goal.returns-in-Some-clause-within
returns-in-Some-clause-within c =
    rw (← c.as_slice-sums.ensures) (place_within _ _ _ _ c.first_above.ensures c.in-Some.is)

pub returns-in-Some-clause-place : goal.returns-in-Some-clause-place
returns-in-Some-clause-place c = λ weights is.
    let all = c.as_slice-sums.ensures ∙ is in
    let whole = last_sum _ weights all (rw (c.as_slice-sums.ensures) (some_sum _ c.requires.sums)) in
    sym (ap (λ (o : Option ℕ). unwrap_or o 0) c.in-Some.is)
    ∙ place_found _ weights _ c.args.draw _ _ all (c.last_of.ensures ∙ whole) (ap (λ (d : ℕ). d * c.last_of.result / 2 ^ 32) c.from.ensures) c.first_above.ensures

pub returns-in-None-clause-place : goal.returns-in-None-clause-place
returns-in-None-clause-place c = λ weights is.
    let all = c.as_slice-sums.ensures ∙ is in
    let whole = last_sum _ weights all (rw (c.as_slice-sums.ensures) (some_sum _ c.requires.sums)) in
    sym (ap (λ (o : Option ℕ). unwrap_or o 0) c.in-None.is)
    ∙ place_found _ weights _ c.args.draw _ _ all (c.last_of.ensures ∙ whole) (ap (λ (d : ℕ). d * c.last_of.result / 2 ^ 32) c.from.ensures) c.first_above.ensures

pub returns-in-None-clause-within : goal.returns-in-None-clause-within
returns-in-None-clause-within c = some_sum _ c.requires.sums
