use Rattle.std.proofs.Common.{arith, sym, ◌∙◌}
use Rattle.std.proofs.lemmas.Result.{err_from_is_err_and}
use Rattle.check_clusters.specs.Assignments.{endpoint_address, is_healthy}
use Rattle.check_steps.proofs.EachLemmas.{taken_more, taken_stops, taken_ends}
use Rattle.check_clusters.proofs.endpoints.healthy_addresses.Goals as goal

pub returns-in_err-address : goal.returns-in_err-address
returns-in_err-address c =
    let p = err_from_is_err_and c.from_residual-in_err-address.result c.from_residual-in_err-address.ensures.1 in
    rw (p.1, p.2)
    (taken_stops endpoint_address is_healthy c.args.endpoints.now c.loop-endpoint.endpoint-index c.endpoint-item.result c.loop-endpoint.addresses c.in_err-address.field-0.0
    c.loop-endpoint-test.true c.endpoint-item.is (sym c.is_healthy.ensures ∙ c.if-not-is_healthy.false) c.in_err-address.ensures c.loop-endpoint.invariant)

pub loop-endpoint-preserved : goal.loop-endpoint-preserved
loop-endpoint-preserved c =
    taken_more endpoint_address is_healthy c.args.endpoints.now c.loop-endpoint.endpoint-index c.endpoint-item.result c.loop-endpoint.addresses c.push.new.self c.in_ok-address.address
    c.loop-endpoint-test.true c.endpoint-item.is (sym c.is_healthy.ensures ∙ c.if-not-is_healthy.false) c.in_ok-address.ensures c.in_ok-push.ensures.ok c.loop-endpoint.invariant

pub returns : goal.returns
returns c = taken_ends endpoint_address is_healthy c.args.endpoints.now c.loop-endpoint.endpoint-index c.loop-endpoint.addresses (omega arith) c.loop-endpoint.invariant
