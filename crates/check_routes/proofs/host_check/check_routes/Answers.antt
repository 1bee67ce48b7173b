use Rattle.check_steps.proofs.AskingLemmas.{ends_asking_nothing}
use Rattle.check_routes.proofs.host_check.check_routes.Goals as goal

pub returns-in_err-few-clause-asked : goal.returns-in_err-few-clause-asked
returns-in_err-few-clause-asked g c = ends_asking_nothing _ _
