use Rattle.check_steps.proofs.AskingLemmas.{ends_asking_nothing, ends_so}
use Rattle.check_routes.proofs.listener_check.check_listener.Goals as goal

pub returns-in_err-manager-clause-asked : goal.returns-in_err-manager-clause-asked
returns-in_err-manager-clause-asked g c = ends_asking_nothing _ _

pub returns-in_err-name-clause-asked : goal.returns-in_err-name-clause-asked
returns-in_err-name-clause-asked g c = ends_so c.in_ok-routes.ensures.asked
