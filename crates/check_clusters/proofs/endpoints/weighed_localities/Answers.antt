use Rattle.std.proofs.Common.{◌≡◌, ◌<◌, ℕ, All, sym, subst, arith, lt-ltb}
use Rattle.std.proofs.lemmas.List.Elements.{All-push}
use Rattle.std.proofs.lemmas.Result.{err_from_is_err_and}
use Rattle.xds_config.specs.Endpoints.{IsLawfulLocality}
use Rattle.check_clusters.specs.Assignments.{is_weighed, locality_of, weight_of}
use Rattle.check_steps.proofs.EachLemmas.{taken_more, taken_stops, taken_ends}
use Rattle.check_clusters.proofs.endpoints.weighed_localities.Goals as goal

weighed : (n m : ℕ) → n ≡ m → (n ≡ 0 → ⊥) → 0 < m
weighed n m is some = omega (arith, some)

pub returns-in_err-locality-clause-value : goal.returns-in_err-locality-clause-value
returns-in_err-locality-clause-value c =
    let p = err_from_is_err_and c.from_residual-in_err-locality.result c.from_residual-in_err-locality.ensures.1 in
    let some = weighed c.weight.result (weight_of c.raw-item.result) c.weight.ensures c.if-weight-eq0.false in
    rw (p.1, p.2)
    (taken_stops locality_of is_weighed c.args.raws.now c.loop-raw.raw-index c.raw-item.result c.loop-raw.localities c.in_err-locality.field-0.0
    c.loop-raw-test.true c.raw-item.is (lt-ltb 0 (weight_of c.raw-item.result) some) c.in_err-locality.ensures.value c.loop-raw.invariant.value)

pub loop-raw-preserved : goal.loop-raw-preserved
loop-raw-preserved c =
    let some = weighed c.weight.result (weight_of c.raw-item.result) c.weight.ensures c.if-weight-eq0.false in
    record {
      value =
          taken_more locality_of is_weighed c.args.raws.now c.loop-raw.raw-index c.raw-item.result c.loop-raw.localities c.push.new.self c.in_ok-locality.locality
          c.loop-raw-test.true c.raw-item.is (lt-ltb 0 (weight_of c.raw-item.result) some) c.in_ok-locality.ensures.value c.in_ok-push.ensures.ok c.loop-raw.invariant.value;
      lawful =
          subst (All IsLawfulLocality) (sym c.in_ok-push.ensures.ok)
          (All-push IsLawfulLocality c.loop-raw.localities c.in_ok-locality.locality c.loop-raw.invariant.lawful
          (record { weighed = subst (λ (n : ℕ). 0 < n) (sym c.in_ok-locality.ensures.weight) some; few = c.in_ok-locality.ensures.few }));
    }

pub returns-clause-value : goal.returns-clause-value
returns-clause-value c = taken_ends locality_of is_weighed c.args.raws.now c.loop-raw.raw-index c.loop-raw.localities (omega arith) c.loop-raw.invariant.value
