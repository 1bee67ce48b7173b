use Rattle.driver_step.proofs.ReportSteps.{reports_leave_fates}
use Rattle.driver_step.proofs.step_laws.reports_leave_fates.Goals as goal

pub returns : goal.returns
returns c = reports_leave_fates
