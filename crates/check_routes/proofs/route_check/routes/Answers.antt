use Rattle.std.proofs.lemmas.Result.{err_from_is_err_and}
use Rattle.check_steps.proofs.AskingLemmas.{ends_asking_nothing, ends_later, ends_so}
use Rattle.check_routes.proofs.RouteLemmas.{more_below, none_below, routes_begin, routes_end, routes_go_on, routes_stop}
use Rattle.check_routes.proofs.route_check.routes.Goals as goal

pub returns-in_err-few-clause-asked : goal.returns-in_err-few-clause-asked
returns-in_err-few-clause-asked g c = ends_asking_nothing _ _

pub loop-place-init : goal.loop-place-init
loop-place-init g c = record {
  few = c.in_ok-few.ensures.few;
  value = rw c.new-routes.ensures (routes_begin c.args.raws.now c.args.asked.now);
  asked = ends_asking_nothing _ _;
  lawful = rw c.new-routes.ensures none_below;
}

pub returns-in_err-kept-clause-value : goal.returns-in_err-kept-clause-value
returns-in_err-kept-clause-value g c =
    let p = err_from_is_err_and c.from_residual-in_err-kept.result c.from_residual-in_err-kept.ensures.1 in
    rw (p.1, p.2)
    (routes_stop c.args.raws.now c.loop-place.place c.index-raws-place.result c.loop-place.routes c.in_err-kept.field-0.0 c.loop-place-test.true c.index-raws-place.is c.loop-place.invariant.value c.in_err-kept.ensures.asked.asks c.in_err-kept.ensures.value)

pub returns-in_err-kept-clause-asked : goal.returns-in_err-kept-clause-asked
returns-in_err-kept-clause-asked g c =
    let p = err_from_is_err_and c.from_residual-in_err-kept.result c.from_residual-in_err-kept.ensures.1 in
    rw (p.1, p.2) (ends_later c.loop-place.invariant.asked c.in_err-kept.ensures.asked)

pub returns-in_err-add-clause-asked : goal.returns-in_err-add-clause-asked
returns-in_err-add-clause-asked g c = ends_so (ends_later c.loop-place.invariant.asked c.in_ok-kept.ensures.asked)

pub loop-place-preserved : goal.loop-place-preserved
loop-place-preserved g c = record {
  few = c.loop-place.invariant.few;
  value = rw c.in_ok-add.ensures
      (routes_go_on c.args.raws.now c.loop-place.place c.index-raws-place.result c.loop-place.routes c.in_ok-kept.kept c.loop-place-test.true c.index-raws-place.is c.loop-place.invariant.value c.in_ok-kept.ensures.asked.asks c.in_ok-kept.ensures.value);
  asked = ends_later c.loop-place.invariant.asked c.in_ok-kept.ensures.asked;
  lawful = rw c.in_ok-add.ensures (more_below c.loop-place.place c.loop-place.routes c.in_ok-kept.kept c.loop-place.invariant.lawful c.in_ok-kept.ensures.lawful c.in_ok-kept.ensures.place);
}

pub returns-clause-value : goal.returns-clause-value
returns-clause-value g c = rw c.in_ok-routes.ensures (routes_end c.args.raws.now c.loop-place.place c.loop-place.routes c.loop-place-test.false c.loop-place.invariant.value)

pub returns-in_err-routes-clause-asked : goal.returns-in_err-routes-clause-asked
returns-in_err-routes-clause-asked g c = ends_so c.loop-place.invariant.asked
