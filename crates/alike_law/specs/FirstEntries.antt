-- What a right history's report says by its first entries (this project's own). Histories have the newest entry first: of
-- `later ++ past` the entries `later` come after those of `past`.
use Rattle.std.specs.Prelude.{◌≡◌, ℕ, true, List, ◌++◌, All, length}
use Rattle.xds_bootstrap.specs.declared.bootstrap.AuthorityEntry.{AuthorityEntry}
use Rattle.call_journal.specs.declared.entry.Entry.{Entry}
use Rattle.session_lines.specs.Lines.{lines_of}
use Rattle.report_turns.specs.TurnLines.{goes_on}
use Rattle.report_compare.specs.report_writer.JournalReport.{entries_report}
use Rattle.report_compare.specs.xds_history.Setting.{Setting}
use Rattle.report_compare.specs.xds_history.Pages.{pages}
use Rattle.report_compare.specs.xds_history.References.{snapshots_of}
use Rattle.report_compare.specs.xds_history.Right.{Right}
use Rattle.report_compare.specs.legal_history.Report.{report}
use Rattle.turn_law.specs.LinesBehind.{lines_behind}
use Rattle.report_compare.specs.front_law.FrontLaw.{IsFrontOf}
use Rattle.report_compare.specs.FirstLines.{first_lines}

-- What stands above the later entries is told by the first ones alone: the lines before those behind the first lines of the
-- entries `past`, and of these so many as go on.
abbrev pub FirstLinesStand : Type 0
FirstLinesStand =
    (s : Setting) (authorities : List AuthorityEntry) (later past : List Entry) (before common other : List (List ℕ)) → Right s (later ++ past)
    → lines_of (report s authorities (later ++ past)) ≡ before ++ lines_behind s authorities later past
    → lines_behind s authorities later past ≡ common ++ other → All (λ line. goes_on line ≡ true) common
    → (rest : List ℕ) → first_lines (length (before ++ common)) (report s authorities (later ++ past))
    ≡ first_lines (length (before ++ common)) (entries_report authorities (snapshots_of (pages s past)) past ++ rest)

-- what is written of a right history's first entries begins what is written of all
abbrev pub FrontIsWritten : Type 0
FrontIsWritten =
    (s : Setting) (authorities : List AuthorityEntry) (later past : List Entry) → Right s (later ++ past)
    → IsFrontOf (entries_report authorities (snapshots_of (pages s past)) past) (entries_report authorities (snapshots_of (pages s (later ++ past))) (later ++ past))
