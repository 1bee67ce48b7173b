use Rattle.text_law.proofs.RefusedLemmas.{refused_are_texts}
use Rattle.text_law.proofs.text_laws.refused_are_texts.Goals as goal

pub returns : goal.returns
returns c = refused_are_texts
