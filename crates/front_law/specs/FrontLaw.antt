-- What is written of a right history's first entries begins the report of the whole (this project's own).
use Rattle.std.specs.Prelude.{◌≡◌, ℕ, List, ◌++◌}
use Rattle.xds_bootstrap.specs.declared.bootstrap.AuthorityEntry.{AuthorityEntry}
use Rattle.call_journal.specs.declared.entry.Entry.{Entry}
use Rattle.report_law.specs.report_writer.JournalReport.{entries_report}
use Rattle.report_law.specs.xds_history.Setting.{Setting}
use Rattle.report_law.specs.xds_history.Pages.{pages}
use Rattle.report_law.specs.xds_history.References.{snapshots_of}
use Rattle.report_law.specs.xds_history.Right.{Right}
use Rattle.report_law.specs.legal_history.Report.{report}

-- a text begins with this one
pub record IsFrontOf (front text : List ℕ) : Type 0 where
  pub rest : List ℕ
  pub begins : text ≡ front ++ rest

-- what is written of a right history's first entries begins the report of the whole
abbrev pub FrontIsReported : Type 0
FrontIsReported =
    (s : Setting) (authorities : List AuthorityEntry) (later past : List Entry) → Right s (later ++ past)
    → IsFrontOf (entries_report authorities (snapshots_of (pages s past)) past) (report s authorities (later ++ past))
