use Rattle.std.proofs.Common.{◌≡◌, ◌≤◌, ℕ}
use Rattle.std.specs.Io.KnownBytes.{Appends}
use Rattle.snapshot_store.specs.Tickets.{values_of}
use Rattle.report_writer.specs.JournalReport.{entries_report, held_after, held_in}
use Rattle.report_writer.proofs.ReportLemmas.{first_entries}
use Rattle.report_writer.proofs.report_writing.write_report.Given as goal

abbrev pub invariant-loop-i : goal.invariant-loop-i
invariant-loop-i g l = record {
  bytes : Appends (g.K.Sink.held l.fn.sink) (g.K.Sink.held l.sink) (entries_report l.boot.authorities (values_of l.history.tickets) (first_entries l.i l.journal.entries));
  holds : (id : ℕ) → held_in l.holds id ≡ held_after (values_of l.history.tickets) (first_entries l.i l.journal.entries) id;
  later : g.K.Sink.faults l.fn.sink ≤ g.K.Sink.faults l.sink;
}
