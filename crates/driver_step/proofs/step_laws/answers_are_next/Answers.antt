use Rattle.driver_step.proofs.AnswerSteps.{answers_are_next}
use Rattle.driver_step.proofs.step_laws.answers_are_next.Goals as goal

pub returns : goal.returns
returns c = answers_are_next
