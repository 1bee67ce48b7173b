use Rattle.check_steps.proofs.FractionLemmas.{of_none}
use Rattle.check_steps.proofs.fractions.part.Goals as goal

pub returns-in-None : goal.returns-in-None
returns-in-None c = of_none c.args.fraction _ c.in-None.is
