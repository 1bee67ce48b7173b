use Rattle.std.proofs.lemmas.Result.{err_from_is_err_and}
use Rattle.check_steps.proofs.AskingLemmas.{ends_asking_nothing, ends_later, ends_so}
use Rattle.check_routes.proofs.route_check.route.Goals as goal

pub returns-in_default-clause-asked : goal.returns-in_default-clause-asked
returns-in_default-clause-asked g c = ends_asking_nothing _ _

pub returns-in_err-headers-clause-asked : goal.returns-in_err-headers-clause-asked
returns-in_err-headers-clause-asked g c =
    let p = err_from_is_err_and c.from_residual-in_err-headers.result c.from_residual-in_err-headers.ensures.1 in
    rw (p.1, p.2) (ends_later c.in_ok-path.ensures.asked c.in_err-headers.ensures.asked)

pub returns-in_err-fraction-clause-asked : goal.returns-in_err-fraction-clause-asked
returns-in_err-fraction-clause-asked g c = ends_so (ends_later c.in_ok-path.ensures.asked c.in_ok-headers.ensures.asked)

pub returns-in_err-action-clause-asked : goal.returns-in_err-action-clause-asked
returns-in_err-action-clause-asked g c = ends_so (ends_later c.in_ok-path.ensures.asked c.in_ok-headers.ensures.asked)

pub returns-clause-asked : goal.returns-clause-asked
returns-clause-asked g c = ends_later c.in_ok-path.ensures.asked c.in_ok-headers.ensures.asked
