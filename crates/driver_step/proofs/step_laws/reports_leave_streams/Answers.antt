use Rattle.driver_step.proofs.ReportSteps.{reports_leave_streams}
use Rattle.driver_step.proofs.step_laws.reports_leave_streams.Goals as goal

pub returns : goal.returns
returns c = reports_leave_streams
