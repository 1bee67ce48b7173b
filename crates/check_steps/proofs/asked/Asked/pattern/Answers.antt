use Rattle.check_steps.proofs.AskingLemmas.{ends_asking_nothing}
use Rattle.check_steps.proofs.asked.Asked.pattern.Goals as goal

pub returns-in_err-pattern-clause-asked : goal.returns-in_err-pattern-clause-asked
returns-in_err-pattern-clause-asked g c = ends_asking_nothing _ _

pub returns-in-Some-clause-asked : goal.returns-in-Some-clause-asked
returns-in-Some-clause-asked g c = ends_asking_nothing _ _
