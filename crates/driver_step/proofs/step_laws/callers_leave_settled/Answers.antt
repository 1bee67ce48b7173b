use Rattle.driver_step.proofs.SettleSteps.{callers_leave_settled}
use Rattle.driver_step.proofs.step_laws.callers_leave_settled.Goals as goal

pub returns : goal.returns
returns c = callers_leave_settled
