use Rattle.std.proofs.Common.{◌≢◌, [], arith, length-append}
use Rattle.std.proofs.lemmas.List.Elements.{All-push}
use Rattle.std.proofs.lemmas.Result.{err_from_is_err_and}
use Rattle.check_routes.specs.RouteTable.{weighted_of}
use Rattle.check_steps.proofs.EachLemmas.{each_ends, each_more, each_stops}
use Rattle.check_routes.proofs.route_check.weighted_clusters.Goals as goal

pub returns-in_err-weighted-clause-value : goal.returns-in_err-weighted-clause-value
returns-in_err-weighted-clause-value c =
    let p = err_from_is_err_and c.from_residual.result c.from_residual.ensures.1 in
    rw (p.1, p.2)
    (each_stops weighted_of c.args.raws.now c.loop-raw.raw-index c.raw-item.result c.loop-raw.clusters c.in_err-weighted.field-0.0 c.loop-raw-test.true c.raw-item.is c.in_err-weighted.ensures.value c.loop-raw.invariant.value)

pub loop-raw-preserved : goal.loop-raw-preserved
loop-raw-preserved c = record {
  value =
      each_more weighted_of c.args.raws.now c.loop-raw.raw-index c.raw-item.result c.loop-raw.clusters c.push.new.self c.in_ok-weighted.weighted c.loop-raw-test.true c.raw-item.is c.in_ok-weighted.ensures.value c.in_ok-push.ensures.ok c.loop-raw.invariant.value;
  named = rw c.in_ok-push.ensures.ok (All-push (λ w. w.cluster ≢ []) c.loop-raw.clusters c.in_ok-weighted.weighted c.loop-raw.invariant.named c.in_ok-weighted.ensures.named);
  len = rw c.in_ok-push.ensures.ok (simp length-append (omega (arith, c.loop-raw.invariant.len)));
}

pub returns-clause-value : goal.returns-clause-value
returns-clause-value c = each_ends weighted_of c.args.raws.now c.loop-raw.raw-index c.loop-raw.clusters c.loop-raw-test.false c.loop-raw.invariant.value
