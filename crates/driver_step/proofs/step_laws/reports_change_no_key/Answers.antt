use Rattle.driver_step.proofs.ReportSteps.{reports_change_no_key}
use Rattle.driver_step.proofs.step_laws.reports_change_no_key.Goals as goal

pub returns : goal.returns
returns c = reports_change_no_key
