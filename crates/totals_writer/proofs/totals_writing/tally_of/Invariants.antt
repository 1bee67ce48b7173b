use Rattle.std.proofs.Common.{◌≡◌, ℕ}
use Rattle.snapshot_store.specs.Tickets.{values_of}
use Rattle.report_writer.specs.JournalReport.{held_after, held_in, shown_entries}
use Rattle.report_writer.proofs.ReportLemmas.{first_entries}
use Rattle.totals_writer.specs.Tallying.{IsTallyOf}
use Rattle.totals_writer.proofs.totals_writing.tally_of.Given as goal

abbrev pub invariant-loop-i : goal.invariant-loop-i
invariant-loop-i l = record {
  holds : (id : ℕ) → held_in l.holds id ≡ held_after (values_of l.history.tickets) (first_entries l.i l.journal.entries) id;
  tally : IsTallyOf (shown_entries (values_of l.history.tickets) (first_entries l.i l.journal.entries)) l.tally;
}
