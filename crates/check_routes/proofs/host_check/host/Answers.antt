use Rattle.check_steps.proofs.AskingLemmas.{ends_asking_nothing, ends_so}
use Rattle.check_routes.proofs.HostLemmas.{lawful_with}
use Rattle.check_routes.proofs.host_check.host.Goals as goal

pub returns-in_err-demand-clause-asked : goal.returns-in_err-demand-clause-asked
returns-in_err-demand-clause-asked g c = ends_asking_nothing _ _

pub returns-clause-lawful : goal.returns-clause-lawful
returns-clause-lawful g c =
    lawful_with c.in_ok-host.host c.args.raw.now c.in_ok-routes.routes c.are_domains.result c.in_ok-names_few.field-0 _ _ _ _ c.in_ok-host.ensures (rw c.as_slice.ensures at c.are_domains.ensures) c.in_ok-demand.ensures
    c.in_ok-routes.ensures.lawful c.in_ok-names_few.ensures c.in_ok-demand-2.ensures

pub returns-in_err-host-clause-asked : goal.returns-in_err-host-clause-asked
returns-in_err-host-clause-asked g c = ends_so c.in_ok-routes.ensures.asked

pub returns-in_err-names_few-clause-asked : goal.returns-in_err-names_few-clause-asked
returns-in_err-names_few-clause-asked g c = ends_so c.in_ok-routes.ensures.asked

pub returns-in_err-demand-2-clause-asked : goal.returns-in_err-demand-2-clause-asked
returns-in_err-demand-2-clause-asked g c = ends_so c.in_ok-routes.ensures.asked
