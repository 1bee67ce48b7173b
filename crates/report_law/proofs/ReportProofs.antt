-- Proofs of the laws of what is written of a journal.
use Rattle.std.proofs.Common.{◌≡◌, List, [], ◌++◌, length, sym, ap, ◌∙◌, append-nil}
use Rattle.xds_bootstrap.specs.declared.bootstrap.AuthorityEntry.{AuthorityEntry}
use Rattle.cluster_tree.specs.declared.snapshot.Snapshot.{Snapshot}
use Rattle.call_journal.specs.declared.entry.Entry.{Entry}
use Rattle.legal_history.specs.report_text.ReportLines.{Shown, end_line, entries_text, head_line, report_text}
use Rattle.report_writer.specs.JournalReport.{entries_report, journal_report, shown_entries}
use Rattle.report_writer.proofs.ReportLemmas.{shown_count}
use Rattle.totals_writer.specs.Totals.{totals_of, totals_text}
use Rattle.legal_history.specs.xds_history.Pages.{pages}
use Rattle.legal_history.specs.xds_history.Setting.{Setting}
use Rattle.legal_history.specs.Report as history_of
use Rattle.legal_history.specs.xds_history.References.{snapshots_of}
use Rattle.report_law.specs.ReportLaw.{OneReport, OneTotals}
use Rattle.report_law.proofs.PublishedLemmas.{are_counted}
use Rattle.report_law.proofs.ShownLemmas.{same_shown}

-- the report of a journal, by the entries that it shows
by_shown : (authorities : List AuthorityEntry) (published : List Snapshot) (es : List Entry) → journal_report authorities published es ≡ report_text authorities (shown_entries published es) (length published)
unfolding journal_report entries_report report_text
by_shown authorities published es =
    ap (λ n. head_line ++ entries_text authorities 1 (shown_entries published es) ++ end_line n (length published)) (sym (shown_count published es))

pub one_report : OneReport
one_report s authorities history right =
    let published = snapshots_of (pages s history) in
    by_shown authorities published history
    ∙ ap (λ xs. report_text authorities xs (length published)) (same_shown s published [] history right (sym (append-nil published)))
    ∙ ap (report_text authorities _) (sym (are_counted s history right).count)

abbrev shown_in : Setting → List Entry → List Shown
shown_in s history = history_of.shown_entries (pages s history)

pub one_totals : OneTotals
one_totals s rounds history right =
    let published = snapshots_of (pages s history) in
    ap (λ xs. totals_text (totals_of rounds xs (length published))) (same_shown s published [] history right (sym (append-nil published)))
    ∙ ap (λ n. totals_text (totals_of rounds (shown_in s history) n)) (sym (are_counted s history right).count)
