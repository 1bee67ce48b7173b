use Rattle.std.proofs.Common.{arith}
use Rattle.std.proofs.lemmas.Result.{err_from_is_err_and}
use Rattle.check_clusters.specs.Assignments.{drop_rule_of}
use Rattle.check_steps.proofs.EachLemmas.{each_more, each_stops, each_ends}
use Rattle.check_clusters.proofs.assignment_check.drop_rules.Goals as goal

pub returns-in_err-rule : goal.returns-in_err-rule
returns-in_err-rule c =
    let p = err_from_is_err_and c.from_residual.result c.from_residual.ensures.1 in
    rw (p.1, p.2) (each_stops drop_rule_of c.args.raws.now c.loop-raw.raw-index c.raw-item.result c.loop-raw.rules c.in_err-rule.field-0.0 c.loop-raw-test.true c.raw-item.is c.in_err-rule.ensures c.loop-raw.invariant)

pub loop-raw-preserved : goal.loop-raw-preserved
loop-raw-preserved c =
    each_more drop_rule_of c.args.raws.now c.loop-raw.raw-index c.raw-item.result c.loop-raw.rules c.push.new.self c.in_ok-rule.rule c.loop-raw-test.true c.raw-item.is c.in_ok-rule.ensures c.in_ok-push.ensures.ok c.loop-raw.invariant

pub returns : goal.returns
returns c = each_ends drop_rule_of c.args.raws.now c.loop-raw.raw-index c.loop-raw.rules (omega arith) c.loop-raw.invariant
