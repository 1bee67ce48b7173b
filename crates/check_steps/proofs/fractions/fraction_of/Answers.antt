use Rattle.check_steps.proofs.FractionLemmas.{of_hundred, of_ten_thousand, of_million}
use Rattle.check_steps.proofs.fractions.fraction_of.Goals as goal

pub returns-in-0 : goal.returns-in-0
returns-in-0 c = of_hundred c.args.part.numerator c.args.part.denominator _ c.in-0.is

pub returns-in-1 : goal.returns-in-1
returns-in-1 c = of_ten_thousand c.args.part.numerator c.args.part.denominator _ c.in-1.is

pub returns-in-2 : goal.returns-in-2
returns-in-2 c = of_million c.args.part.numerator c.args.part.denominator _ c.in-2.is
