use Rattle.book_progress.proofs.TallyLemmas.{first_tally}
use Rattle.book_progress.proofs.progress.Progress.new.Goals as goal

pub returns : goal.returns
returns c = first_tally c.args.actors c.args.lines _ _ c.in_ok-counts.ensures c.in_ok-ended.ensures
