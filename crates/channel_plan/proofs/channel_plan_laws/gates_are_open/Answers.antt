use Rattle.channel_plan.proofs.GateProofs as gates
use Rattle.channel_plan.proofs.channel_plan_laws.gates_are_open.Goals as goal

pub returns : goal.returns
returns c = gates.gates_are_open
