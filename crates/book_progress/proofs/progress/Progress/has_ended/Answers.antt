use Rattle.std.proofs.Common.{ap}
use Rattle.book_progress.specs.ProgressKept.{Tally}
use Rattle.book_progress.proofs.TallyLemmas.{end_is}
use Rattle.book_progress.proofs.progress.Progress.has_ended.Goals as goal

pub returns-then-line-len-clause-ended : goal.returns-then-line-len-clause-ended
returns-then-line-len-clause-ended c = λ actors lines history is. end_is lines history c.args.self.now.ended c.args.line _ (ap (λ (t : Tally). t.ended) is) c.mark_at-ended.ensures
