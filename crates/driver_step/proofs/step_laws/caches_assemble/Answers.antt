use Rattle.driver_step.proofs.AnswerSteps.{caches_assemble}
use Rattle.driver_step.proofs.step_laws.caches_assemble.Goals as goal

pub returns : goal.returns
returns c = caches_assemble
