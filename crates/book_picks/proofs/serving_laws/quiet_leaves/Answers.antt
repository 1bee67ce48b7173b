use Rattle.book_picks.proofs.ServingLemmas.{quiet_leaves}
use Rattle.book_picks.proofs.serving_laws.quiet_leaves.Goals as goal

pub returns : goal.returns
returns c = quiet_leaves
