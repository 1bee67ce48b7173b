use Rattle.std.proofs.lemmas.Result.{err_from_is_err_and}
use Rattle.check_routes.specs.HeaderTable.{header_rule}
use Rattle.check_steps.proofs.AskingLemmas.{ends_asking_nothing, ends_later, ends_so}
use Rattle.check_steps.proofs.LoopLemmas.{begins, ends, goes_on, stops}
use Rattle.check_routes.proofs.header_check.header_rules.Goals as goal

pub loop-raw-init : goal.loop-raw-init
loop-raw-init g c = record {
  value = rw c.new-rules.ensures (begins header_rule c.args.raws.now c.args.asked.now);
  asked = ends_asking_nothing _ _;
}

pub returns-in_err-rule-clause-value : goal.returns-in_err-rule-clause-value
returns-in_err-rule-clause-value g c =
    let p = err_from_is_err_and c.from_residual.result c.from_residual.ensures.1 in
    rw (p.1, p.2)
    (stops header_rule c.args.raws.now c.loop-raw.raw-index c.raw-item.result c.loop-raw.rules c.in_err-rule.field-0.0 c.loop-raw-test.true c.raw-item.is c.loop-raw.invariant.value c.in_err-rule.ensures.asked.asks c.in_err-rule.ensures.value)

pub returns-in_err-rule-clause-asked : goal.returns-in_err-rule-clause-asked
returns-in_err-rule-clause-asked g c =
    let p = err_from_is_err_and c.from_residual.result c.from_residual.ensures.1 in
    rw (p.1, p.2) (ends_later c.loop-raw.invariant.asked c.in_err-rule.ensures.asked)

pub returns-in_err-push-clause-asked : goal.returns-in_err-push-clause-asked
returns-in_err-push-clause-asked g c = ends_so (ends_later c.loop-raw.invariant.asked c.in_ok-rule.ensures.asked)

pub loop-raw-preserved : goal.loop-raw-preserved
loop-raw-preserved g c = record {
  value = rw c.in_ok-push.ensures.ok
      (goes_on header_rule c.args.raws.now c.loop-raw.raw-index c.raw-item.result c.loop-raw.rules c.in_ok-rule.rule c.loop-raw-test.true c.raw-item.is c.loop-raw.invariant.value c.in_ok-rule.ensures.asked.asks c.in_ok-rule.ensures.value);
  asked = ends_later c.loop-raw.invariant.asked c.in_ok-rule.ensures.asked;
}

pub returns-clause-value : goal.returns-clause-value
returns-clause-value g c = ends header_rule c.args.raws.now c.loop-raw.raw-index c.loop-raw.rules c.loop-raw-test.false c.loop-raw.invariant.value
