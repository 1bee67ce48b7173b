use Rattle.book_trees.proofs.ServedLemmas.{stay_keeps_places}
use Rattle.book_trees.proofs.reported_laws.stay_keeps_places.Goals as goal

pub returns : goal.returns
returns c = stay_keeps_places
