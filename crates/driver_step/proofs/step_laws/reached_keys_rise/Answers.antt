use Rattle.driver_step.proofs.KeySets.{reached_keys_rise}
use Rattle.driver_step.proofs.step_laws.reached_keys_rise.Goals as goal

pub returns : goal.returns
returns c = reached_keys_rise
