use Rattle.session_plan.proofs.plan_laws.stream_is_listed.Goals as goal
use Rattle.session_plan.proofs.StreamLemmas as laws

pub returns : goal.returns
returns c = laws.stream_is_listed
