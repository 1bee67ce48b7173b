use Rattle.book_picks.proofs.ServingLemmas.{marks_tell_served}
use Rattle.book_picks.proofs.serving_laws.marks_tell_served.Goals as goal

pub returns : goal.returns
returns c = marks_tell_served
