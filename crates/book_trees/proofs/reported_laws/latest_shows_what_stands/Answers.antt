use Rattle.book_trees.proofs.DueNumberLemmas.{latest_shows_what_stands}
use Rattle.book_trees.proofs.reported_laws.latest_shows_what_stands.Goals as goal

pub returns : goal.returns
returns c = latest_shows_what_stands
