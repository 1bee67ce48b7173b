use Rattle.std.proofs.Common.{List, sym, ap, subst}
use Rattle.call_journal.specs.declared.entry.Entry.{Entry}
use Rattle.call_journal.specs.JournalViews.{JournalView}
use Rattle.book_progress.specs.ProgressKept.{IsCounted}
use Rattle.book_progress.proofs.JournalLemmas.{counted_first}
use Rattle.book_progress.proofs.counted_journal.CountedJournal.new.Goals as goal

pub invariant_of-result : goal.invariant_of-result
invariant_of-result c =
    subst (λ (es : List Entry). IsCounted es c.in_ok-progress.progress) (sym (ap (λ (j : JournalView). j.entries) c.in_ok-journal.ensures))
    (counted_first _ _ c.in_ok-progress.progress c.in_ok-progress.ensures)
