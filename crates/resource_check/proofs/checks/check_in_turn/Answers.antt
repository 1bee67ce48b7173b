use Rattle.check_steps.proofs.AskingLemmas.{ends_asking_nothing}
use Rattle.resource_check.proofs.checks.check_in_turn.Goals as goal

pub returns-in_err-name-clause-asked : goal.returns-in_err-name-clause-asked
returns-in_err-name-clause-asked g c = ends_asking_nothing _ _

pub returns-in_err-shown-clause-asked : goal.returns-in_err-shown-clause-asked
returns-in_err-shown-clause-asked g c = ends_asking_nothing _ _
