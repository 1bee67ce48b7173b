use Rattle.session_plan.proofs.plan_laws.ended_plan_is_listed.Goals as goal
use Rattle.session_plan.proofs.LawProofs as laws

pub returns : goal.returns
returns c = laws.ended_plan_is_listed
