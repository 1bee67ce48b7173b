use Rattle.book_trees.proofs.TypedLemmas.{configs_are_kept}
use Rattle.book_trees.proofs.reported_laws.configs_are_kept.Goals as goal

pub returns : goal.returns
returns c = configs_are_kept
