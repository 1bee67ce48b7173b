use Rattle.check_steps.proofs.AskingLemmas.{ends_asking_nothing}
use Rattle.check_routes.proofs.listener_check.routes.Goals as goal

pub returns-in-None-clause-asked : goal.returns-in-None-clause-asked
returns-in-None-clause-asked g c = ends_asking_nothing _ _

pub returns-in-Some-Rds-clause-asked : goal.returns-in-Some-Rds-clause-asked
returns-in-Some-Rds-clause-asked g c = ends_asking_nothing _ _
