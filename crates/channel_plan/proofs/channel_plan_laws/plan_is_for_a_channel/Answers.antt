use Rattle.channel_plan.proofs.PlanProofs as plans
use Rattle.channel_plan.proofs.channel_plan_laws.plan_is_for_a_channel.Goals as goal

pub returns : goal.returns
returns c = plans.plan_is_for_a_channel
