-- What is written of a right history's journal is the report, or the totals, of the history (this project's own).
use Rattle.std.specs.Prelude.{◌≡◌, ℕ, List, unwrap_or}
use Rattle.xds_bootstrap.specs.declared.bootstrap.AuthorityEntry.{AuthorityEntry}
use Rattle.call_journal.specs.declared.entry.Entry.{Entry}
use Rattle.report_writer.specs.JournalReport.{journal_report}
use Rattle.totals_writer.specs.Totals.{journal_totals, totals_of, totals_text}
use Rattle.legal_history.specs.xds_history.Setting.{Setting}
use Rattle.legal_history.specs.xds_history.Page.{latest_number}
use Rattle.legal_history.specs.xds_history.Pages.{pages}
use Rattle.legal_history.specs.xds_history.Right.{Right}
use Rattle.legal_history.specs.Report.{report, shown_entries}
use Rattle.legal_history.specs.xds_history.References.{snapshots_of}

-- the report of a right history's entries and of the snapshots that it published is the report of the history
abbrev pub OneReport : Type 0
OneReport =
    (s : Setting) (authorities : List AuthorityEntry) (history : List Entry) → Right s history
    → journal_report authorities (snapshots_of (pages s history)) history ≡ report s authorities history

-- the totals of a history of a session of so many rounds; snapshots are numbered from 1, so the latest number says how many
-- there are
abbrev pub totals : ℕ → Setting → List Entry → List ℕ
totals rounds s history = totals_text (totals_of rounds (shown_entries (pages s history)) (unwrap_or (latest_number (pages s history)) 0))

-- the totals of a right history's entries and of the snapshots that it published are the totals of the history
abbrev pub OneTotals : Type 0
OneTotals =
    (s : Setting) (rounds : ℕ) (history : List Entry) → Right s history
    → journal_totals rounds (snapshots_of (pages s history)) history ≡ totals rounds s history
