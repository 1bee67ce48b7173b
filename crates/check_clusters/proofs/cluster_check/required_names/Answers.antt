use Rattle.std.proofs.lemmas.List.Elements.{All-push}
use Rattle.std.proofs.lemmas.Result.{err_from_is_err_and}
use Rattle.std.proofs.Common.{◌≢◌, List, ℕ, [], All, sym, subst, arith}
use Rattle.check_steps.specs.ResourceNames.{required_name}
use Rattle.check_steps.proofs.EachLemmas.{each_more, each_stops, each_ends}
use Rattle.check_clusters.proofs.cluster_check.required_names.Goals as goal

pub returns-in_err-name-clause-value : goal.returns-in_err-name-clause-value
returns-in_err-name-clause-value c =
    let p = err_from_is_err_and c.from_residual.result c.from_residual.ensures.1 in
    rw (p.1, p.2) (each_stops required_name c.args.children.now c.loop-child.child-index c.child-item.result c.loop-child.clusters c.in_err-name.field-0.0 c.loop-child-test.true c.child-item.is c.in_err-name.ensures.value c.loop-child.invariant.value)

pub loop-child-preserved : goal.loop-child-preserved
loop-child-preserved c = record {
  value = each_more required_name c.args.children.now c.loop-child.child-index c.child-item.result c.loop-child.clusters c.push.new.self c.in_ok-name.name c.loop-child-test.true c.child-item.is c.in_ok-name.ensures.value c.in_ok-push.ensures.ok c.loop-child.invariant.value;
  some = subst (All (λ (name : List ℕ). name ≢ [])) (sym c.in_ok-push.ensures.ok) (All-push (λ (name : List ℕ). name ≢ []) c.loop-child.clusters c.in_ok-name.name c.loop-child.invariant.some c.in_ok-name.ensures.some);
}

pub returns-clause-value : goal.returns-clause-value
returns-clause-value c = each_ends required_name c.args.children.now c.loop-child.child-index c.loop-child.clusters (omega arith) c.loop-child.invariant.value
