use Rattle.driver_step.proofs.SettleSteps.{drivers_settle_keys}
use Rattle.driver_step.proofs.step_laws.drivers_settle_keys.Goals as goal

pub returns : goal.returns
returns c = drivers_settle_keys
