use Rattle.book_picks.proofs.ServingLemmas.{trees_serve_all}
use Rattle.book_picks.proofs.serving_laws.trees_serve_all.Goals as goal

pub returns : goal.returns
returns c = trees_serve_all
