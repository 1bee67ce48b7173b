use Rattle.std.proofs.Common.{ap}
use Rattle.book_progress.specs.ProgressKept.{Tally}
use Rattle.book_progress.proofs.TallyLemmas.{count_is}
use Rattle.book_progress.proofs.progress.Progress.count.Goals as goal

pub returns-clause-history : goal.returns-clause-history
returns-clause-history c = λ actors lines history is. count_is actors history c.args.self.now.counts c.args.actor _ (ap (λ (t : Tally). t.counts) is) c.count_at-count.ensures
