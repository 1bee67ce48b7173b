use Rattle.xc_base.proofs.NumberLemmas.{numbers_are_decimal}
use Rattle.xc_base.proofs.numbers.numbers_are_decimal.Goals as goal

pub returns : goal.returns
returns c = numbers_are_decimal
