use Rattle.check_steps.proofs.AskingLemmas.{ends_asking_nothing, ends_so}
use Rattle.check_routes.proofs.listener_check.inline_routes.Goals as goal

pub returns-in_err-name-clause-asked : goal.returns-in_err-name-clause-asked
returns-in_err-name-clause-asked g c = ends_asking_nothing _ _

pub returns-in_err-routes-2-clause-asked : goal.returns-in_err-routes-2-clause-asked
returns-in_err-routes-2-clause-asked g c = ends_so c.in_ok-routes.ensures.asked
