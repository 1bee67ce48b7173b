use Rattle.legal_plan.proofs.LegalityProofs as laws
use Rattle.legal_plan.proofs.plan_legality.ended_plan_is_legal.Goals as goal

pub returns : goal.returns
returns c = laws.ended_plan_is_legal
