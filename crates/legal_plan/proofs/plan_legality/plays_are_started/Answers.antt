use Rattle.legal_plan.proofs.LegalityProofs as laws
use Rattle.legal_plan.proofs.plan_legality.plays_are_started.Goals as goal

pub returns : goal.returns
returns c = laws.plays_are_started
