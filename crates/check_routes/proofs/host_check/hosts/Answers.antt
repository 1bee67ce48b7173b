use Rattle.std.proofs.Common.{arith, refl, length-append}
use Rattle.std.proofs.lemmas.Result.{err_from_is_err_and}
use Rattle.std.proofs.lemmas.List.Elements.{All-nil, All-push}
use Rattle.xds_config.specs.RouteValues.{IsLawfulHost}
use Rattle.check_routes.specs.RouteTable.{host_of}
use Rattle.check_steps.proofs.AskingLemmas.{ends_asking_nothing, ends_later, ends_so}
use Rattle.check_steps.proofs.LoopLemmas.{begins, ends, goes_on, stops}
use Rattle.check_routes.proofs.host_check.hosts.Goals as goal

pub loop-raw-init : goal.loop-raw-init
loop-raw-init g c = record {
  value = rw c.new-hosts.ensures (begins host_of c.args.raws.now c.args.asked.now);
  asked = ends_asking_nothing _ _;
  lawful = rw c.new-hosts.ensures (All-nil IsLawfulHost);
  len = rw c.new-hosts.ensures refl;
}

pub returns-in_err-host-clause-value : goal.returns-in_err-host-clause-value
returns-in_err-host-clause-value g c =
    let p = err_from_is_err_and c.from_residual.result c.from_residual.ensures.1 in
    rw (p.1, p.2)
    (stops host_of c.args.raws.now c.loop-raw.raw-index c.raw-item.result c.loop-raw.hosts c.in_err-host.field-0.0 c.loop-raw-test.true c.raw-item.is c.loop-raw.invariant.value c.in_err-host.ensures.asked.asks c.in_err-host.ensures.value)

pub returns-in_err-host-clause-asked : goal.returns-in_err-host-clause-asked
returns-in_err-host-clause-asked g c =
    let p = err_from_is_err_and c.from_residual.result c.from_residual.ensures.1 in
    rw (p.1, p.2) (ends_later c.loop-raw.invariant.asked c.in_err-host.ensures.asked)

pub returns-in_err-push-clause-asked : goal.returns-in_err-push-clause-asked
returns-in_err-push-clause-asked g c = ends_so (ends_later c.loop-raw.invariant.asked c.in_ok-host.ensures.asked)

pub loop-raw-preserved : goal.loop-raw-preserved
loop-raw-preserved g c = record {
  value = rw c.in_ok-push.ensures.ok
      (goes_on host_of c.args.raws.now c.loop-raw.raw-index c.raw-item.result c.loop-raw.hosts c.in_ok-host.host c.loop-raw-test.true c.raw-item.is c.loop-raw.invariant.value c.in_ok-host.ensures.asked.asks c.in_ok-host.ensures.value);
  asked = ends_later c.loop-raw.invariant.asked c.in_ok-host.ensures.asked;
  lawful = rw c.in_ok-push.ensures.ok (All-push IsLawfulHost c.loop-raw.hosts c.in_ok-host.host c.loop-raw.invariant.lawful c.in_ok-host.ensures.lawful);
  len = rw c.in_ok-push.ensures.ok (simp length-append (omega (arith, c.loop-raw.invariant.len)));
}

pub returns-clause-value : goal.returns-clause-value
returns-clause-value g c = ends host_of c.args.raws.now c.loop-raw.raw-index c.loop-raw.hosts c.loop-raw-test.false c.loop-raw.invariant.value
