-- What is written of a right history's first entries.
use Rattle.std.proofs.Common.{◌≡◌, ℕ, ◌+◌, ◌≤◌, true, List, [], ◌∷◌, ◌++◌, All, length, drop, refl, sym, ap, subst, ◌∙◌, append_assoc, append-nil, arith}
use Rattle.std.specs.Option.{unwrap_or}
use Rattle.std.proofs.lemmas.List.{drop_at, length-append}
use Rattle.xds_bootstrap.specs.declared.bootstrap.AuthorityEntry.{AuthorityEntry}
use Rattle.call_journal.specs.declared.entry.Entry.{Entry}
use Rattle.session_lines.specs.Lines.{lines_of}
use Rattle.report_compare.specs.report_text.ReportLines.{Shown, end_line, entries_text, head_line, report_text}
use Rattle.report_turns.specs.TurnLines.{goes_on}
use Rattle.report_compare.specs.report_writer.JournalReport.{entries_report}
use Rattle.report_compare.specs.xds_history.Setting.{Setting}
use Rattle.report_compare.specs.xds_history.Page.{latest_number}
use Rattle.report_compare.specs.xds_history.Pages.{pages}
use Rattle.report_compare.specs.xds_history.References.{snapshots_of}
use Rattle.report_compare.specs.xds_history.Right.{Right}
use Rattle.report_compare.proofs.xds_history.KeepProofs.{right_past}
use Rattle.report_compare.specs.legal_history.Report.{report, shown_entries}
use Rattle.report_compare.proofs.report_law.ShownLemmas.{same_shown}
use Rattle.report_compare.specs.FirstLines.{first_lines}
use Rattle.report_compare.proofs.text_law.AfterLemmas.{shown_next}
use Rattle.turn_law.specs.LinesBehind.{later_text, newest_more_lines}
use Rattle.alike_law.specs.FirstEntries.{FirstLinesStand, FrontIsWritten}
use Rattle.alike_law.proofs.WholeTexts.{IsWhole, feeds, feeds_append, whole_nothing}
use Rattle.alike_law.proofs.FirstLineLemmas.{first_within}
use Rattle.alike_law.proofs.EntryTexts.{BeginsFresh, EndsWith, begins_later, fresh_lines, head_end, more_whole, newest_end, split_text, stand_before}

-- ---- what is shown

abbrev shown_in : Setting → List Entry → List Shown
shown_in s history = shown_entries (pages s history)

-- what later entries show stands behind what the first ones show
shown_behind : (s : Setting) (later past : List Entry) → (rest : List Shown) × (shown_in s (later ++ past) ≡ shown_in s past ++ rest)
shown_behind s [] past = ([], sym (append-nil (shown_in s past)))
shown_behind s (e ∷ later) past =
    let rest = shown_behind s later past in
    let next : Shown = shown_next s (later ++ past) e in
    (rest.0 ++ (next ∷ []), ap (λ (xs : List Shown). xs ++ (next ∷ [])) rest.1 ∙ append_assoc (shown_in s past) rest.0 (next ∷ []))

shown_length : (s : Setting) (history : List Entry) → length (shown_in s history) ≡ length history
shown_length s [] = refl
shown_length s (e ∷ past) =
    let more : length (shown_in s past) ≡ length past = shown_length s past in
    length-append (shown_in s past) (shown_next s past e ∷ []) ∙ omega (arith, more)

-- ---- what is written

abbrev written : Setting → List AuthorityEntry → List Entry → List ℕ
written s authorities past = entries_report authorities (snapshots_of (pages s past)) past

written_is : (s : Setting) (authorities : List AuthorityEntry) (past : List Entry) → Right s past → written s authorities past ≡ head_line ++ entries_text authorities 1 (shown_in s past)
unfolding entries_report
written_is s authorities past right =
    let published = snapshots_of (pages s past) in
    ap (λ (xs : List Shown). head_line ++ entries_text authorities 1 xs) (same_shown s published [] past right (sym (append-nil published)))

-- the text of later entries
abbrev later_entries : Setting → List AuthorityEntry → List Entry → List Entry → List ℕ
later_entries s authorities later past = entries_text authorities (length past + 1) (drop (length past) (shown_in s (later ++ past)))

later_is : (s : Setting) (authorities : List AuthorityEntry) (later past : List Entry) (rest : List Shown) → shown_in s (later ++ past) ≡ shown_in s past ++ rest
    → entries_text authorities (1 + length (shown_in s past)) rest ≡ later_entries s authorities later past
later_is s authorities later past rest is =
    let count : length (shown_in s past) ≡ length past = shown_length s past in
    let number : 1 + length (shown_in s past) ≡ length past + 1 = omega (arith, count) in
    let behind : drop (length past) (shown_in s (later ++ past)) ≡ rest =
    ap (λ (xs : List Shown). drop (length past) xs) is ∙ drop_at (shown_in s past) rest (length past) count in
    ap (λ (n : ℕ). entries_text authorities n rest) number ∙ ap (λ (xs : List Shown). entries_text authorities (length past + 1) xs) (sym behind)

-- it stands behind that of the first ones
written_more : (s : Setting) (authorities : List AuthorityEntry) (later past : List Entry) → Right s past
    → head_line ++ entries_text authorities 1 (shown_in s (later ++ past)) ≡ written s authorities past ++ later_entries s authorities later past
written_more s authorities later past right =
    let rest = shown_behind s later past in
    let first : List ℕ = entries_text authorities 1 (shown_in s past) in
    let more : List ℕ = later_entries s authorities later past in
    ap (λ (xs : List Shown). head_line ++ entries_text authorities 1 xs) rest.1
    ∙ (ap (λ (text : List ℕ). head_line ++ text) (split_text authorities 1 (shown_in s past) rest.0 ∙ ap (λ (text : List ℕ). first ++ text) (later_is s authorities later past rest.0 rest.1))
    ∙ (sym (append_assoc head_line first more) ∙ ap (λ (text : List ℕ). text ++ more) (sym (written_is s authorities past right))))

pub front_is_written : FrontIsWritten
front_is_written s authorities later past right = record {
  rest = later_entries s authorities later past;
  begins = written_is s authorities (later ++ past) right ∙ written_more s authorities later past (right_past s later past right);
}

-- ---- the report

report_is : (s : Setting) (authorities : List AuthorityEntry) (later past : List Entry) → Right s past
    → report s authorities (later ++ past) ≡ written s authorities past ++ later_text authorities (length past) (pages s (later ++ past))
unfolding report_text
report_is s authorities later past right =
    let end : List ℕ = end_line (length (shown_in s (later ++ past))) (unwrap_or (latest_number (pages s (later ++ past))) 0) in
    ap (λ (text : List ℕ). text ++ end) (written_more s authorities later past right)
    ∙ append_assoc (written s authorities past) (later_entries s authorities later past) end

-- what is written ends with the lines behind the first one of its newest entry
shown_end : (s : Setting) (authorities : List AuthorityEntry) (past : List Entry)
    → EndsWith (head_line ++ entries_text authorities 1 (shown_in s past)) (newest_more_lines authorities (pages s past))
shown_end s authorities [] = head_end authorities
shown_end s authorities (e ∷ past) = newest_end authorities (shown_in s past) (shown_next s past e)

newest_whole : (s : Setting) (authorities : List AuthorityEntry) (past : List Entry) → IsWhole (newest_more_lines authorities (pages s past))
newest_whole s authorities [] = whole_nothing
newest_whole s authorities (e ∷ past) = more_whole authorities (shown_next s past e).snapshot (shown_next s past e).entry.what

later_fresh : (s : Setting) (authorities : List AuthorityEntry) (later past : List Entry) → BeginsFresh (lines_of (later_text authorities (length past) (pages s (later ++ past))))
later_fresh s authorities later past =
    let shown : ℕ = length (shown_in s (later ++ past)) in
    let snapshots : ℕ = unwrap_or (latest_number (pages s (later ++ past))) 0 in
    fresh_lines (later_text authorities (length past) (pages s (later ++ past)))
    (begins_later authorities (length past + 1) (drop (length past) (shown_in s (later ++ past))) shown snapshots)

-- ---- lines that stand

-- the lines before those of the newest entry and of what is later are those of the text before them
before_counted : (text front later : List ℕ) (before : List (List ℕ)) → IsWhole front → text ≡ front ++ later → lines_of text ≡ before ++ lines_of later → length before ≡ feeds front
before_counted text front later before whole is lines =
    let both : length (lines_of text) ≡ length (lines_of front) + length (lines_of later) =
    ap length (ap lines_of is ∙ whole.parts later) ∙ length-append (lines_of front) (lines_of later) in
    let same : length (lines_of text) ≡ length before + length (lines_of later) = ap length lines ∙ length-append before (lines_of later) in
    let count : length (lines_of front) ≡ feeds front = whole.counted in
    omega (arith, both, same, count)

-- the lines that go on are those of the newest entry
common_counted : (newest later : List ℕ) (common other : List (List ℕ)) → IsWhole newest → BeginsFresh (lines_of later) → lines_of (newest ++ later) ≡ common ++ other
    → All (λ line. goes_on line ≡ true) common → length common ≤ feeds newest
common_counted newest later common other whole fresh split on =
    let lines : lines_of newest ++ fresh.line ∷ fresh.more ≡ common ++ other =
    ap (λ (xs : List (List ℕ)). lines_of newest ++ xs) (sym fresh.is) ∙ (sym (whole.parts later) ∙ split) in
    let less : length common ≤ length (lines_of newest) = stand_before (lines_of newest) fresh.more common other fresh.line lines fresh.on on in
    let count : length (lines_of newest) ≡ feeds newest = whole.counted in
    omega (arith, less, count)

-- a text of the first entries, which ends with the lines behind the newest one's first, and then the later ones
stand_within : (text first newest later : List ℕ) (before common other : List (List ℕ)) → text ≡ first ++ later → EndsWith first newest → IsWhole newest → BeginsFresh (lines_of later)
    → lines_of text ≡ before ++ lines_of (newest ++ later) → lines_of (newest ++ later) ≡ common ++ other → All (λ line. goes_on line ≡ true) common
    → length (before ++ common) ≤ feeds first
stand_within text first newest later before common other is ends whole fresh lines split on =
    let parts : text ≡ ends.front ++ (newest ++ later) = is ∙ (ap (λ (t : List ℕ). t ++ later) ends.is ∙ append_assoc ends.front newest later) in
    let one : length before ≡ feeds ends.front = before_counted text ends.front (newest ++ later) before ends.whole parts lines in
    let more : length common ≤ feeds newest = common_counted newest later common other whole fresh split on in
    let all : feeds first ≡ feeds ends.front + feeds newest = ap feeds ends.is ∙ feeds_append ends.front newest in
    let both : length (before ++ common) ≡ length before + length common = length-append before common in
    omega (arith, one, more, all, both)

pub first_lines_stand : FirstLinesStand
first_lines_stand s authorities later past before common other right lines split on rest =
    let first : List ℕ = written s authorities past in
    let newest : List ℕ = newest_more_lines authorities (pages s past) in
    let behind : List ℕ = later_text authorities (length past) (pages s (later ++ past)) in
    let were : Right s past = right_past s later past right in
    let is : report s authorities (later ++ past) ≡ first ++ behind = report_is s authorities later past were in
    let ends : EndsWith first newest = subst (λ (text : List ℕ). EndsWith text newest) (sym (written_is s authorities past were)) (shown_end s authorities past) in
    let le : length (before ++ common) ≤ feeds first =
    stand_within (report s authorities (later ++ past)) first newest behind before common other is ends (newest_whole s authorities past) (later_fresh s authorities later past) lines split on in
    ap (first_lines (length (before ++ common))) is
    ∙ (first_within (length (before ++ common)) first behind le ∙ sym (first_within (length (before ++ common)) first rest le))
