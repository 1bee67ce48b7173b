use Rattle.std.proofs.Common.{◌∙◌, sym}
use Rattle.xc_base.proofs.NumberLemmas.{number_of_excluded, number_of_parsed, number_of_matches}
use Rattle.xc_base.proofs.numbers.read_number.Goals as goal

pub returns-then-is_signed_or_padded-clause-value : goal.returns-then-is_signed_or_padded-clause-value
returns-then-is_signed_or_padded-clause-value c = number_of_excluded _ (sym c.is_signed_or_padded.ensures ∙ c.if-is_signed_or_padded.true)

pub returns-then-is_signed_or_padded-clause-number : goal.returns-then-is_signed_or_padded-clause-number
returns-then-is_signed_or_padded-clause-number c = number_of_matches _ _ (returns-then-is_signed_or_padded-clause-value c)

pub returns-clause-value : goal.returns-clause-value
returns-clause-value c = c.ok.ensures.value ∙ number_of_parsed _ _ (sym c.is_signed_or_padded.ensures ∙ c.if-is_signed_or_padded.false) c.parse.ensures.value.0

pub returns-clause-number : goal.returns-clause-number
returns-clause-number c = number_of_matches _ _ (returns-clause-value c)
