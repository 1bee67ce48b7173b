-- Proof of the law of a history's first entries.
use Rattle.std.proofs.Common.{◌≡◌, ℕ, ◌+◌, List, [], ◌∷◌, ◌++◌, length, sym, ap, subst, ◌∙◌, append_assoc, append-nil}
use Rattle.std.specs.Option.{unwrap_or}
use Rattle.xds_bootstrap.specs.declared.bootstrap.AuthorityEntry.{AuthorityEntry}
use Rattle.call_journal.specs.declared.entry.Entry.{Entry}
use Rattle.report_law.specs.report_text.EntryText.{entry_lines}
use Rattle.report_law.specs.report_text.ReportLines.{Shown, end_line, entries_text, head_line, report_text}
use Rattle.report_law.specs.report_writer.JournalReport as journal
use Rattle.report_law.specs.xds_history.Setting.{Setting}
use Rattle.report_law.specs.xds_history.Page.{latest_number}
use Rattle.report_law.specs.xds_history.Pages.{page_of, pages}
use Rattle.report_law.specs.xds_history.References.{snapshots_of}
use Rattle.report_law.specs.xds_history.Right.{Right}
use Rattle.report_law.specs.legal_history.Report as history_of
use Rattle.report_law.proofs.ShownLemmas.{same_shown}
use Rattle.front_law.specs.FrontLaw.{FrontIsReported, IsFrontOf}
use Rattle.front_law.proofs.Fronts.{front_behind, front_more, front_nothing}

-- the first entries of a right history are one
right_before : (s : Setting) (later past : List Entry) → Right s (later ++ past) → Right s past
right_before s [] past right = right
right_before s (e ∷ later) past right = right_before s later past right.1

-- ---- what is shown

abbrev shown_in : Setting → List Entry → List Shown
shown_in s history = history_of.shown_entries (pages s history)

-- what later entries show stands behind what the first ones show
shown_behind : (s : Setting) (later past : List Entry) → (rest : List Shown) × (shown_in s (later ++ past) ≡ shown_in s past ++ rest)
shown_behind s [] past = ([], sym (append-nil (shown_in s past)))
shown_behind s (e ∷ later) past =
    let rest = shown_behind s later past in
    let before = pages s (later ++ past) in
    let next : Shown = history_of.shown_entry (page_of s e e.what (later ++ past) before) before in
    (rest.0 ++ (next ∷ []), ap (λ (xs : List Shown). xs ++ (next ∷ [])) rest.1 ∙ append_assoc (shown_in s past) rest.0 (next ∷ []))

-- the text of the first entries begins that of all
front_entries : (authorities : List AuthorityEntry) (n : ℕ) (xs rest : List Shown) → IsFrontOf (entries_text authorities n xs) (entries_text authorities n (xs ++ rest))
unfolding entries_text
front_entries authorities n [] rest = front_nothing (entries_text authorities n rest)
front_entries authorities n (x ∷ xs) rest =
    front_behind (entry_lines authorities x.snapshot x.cluster n x.entry) (entries_text authorities (n + 1) xs) (entries_text authorities (n + 1) (xs ++ rest)) (front_entries authorities (n + 1) xs rest)

-- ---- the law

-- the first line and the lines of the first entries begin the report
front_report : (authorities : List AuthorityEntry) (xs rest : List Shown) (snapshots : ℕ) → IsFrontOf (head_line ++ entries_text authorities 1 xs) (report_text authorities (xs ++ rest) snapshots)
unfolding report_text head_line end_line entries_text
front_report authorities xs rest snapshots =
    let all = entries_text authorities 1 (xs ++ rest) in
    let end = end_line (length (xs ++ rest)) snapshots in
    front_behind head_line (entries_text authorities 1 xs) (all ++ end) (front_more (entries_text authorities 1 xs) all end (front_entries authorities 1 xs rest))

written : (authorities : List AuthorityEntry) (s : Setting) (past : List Entry) → Right s past
    → head_line ++ entries_text authorities 1 (shown_in s past) ≡ journal.entries_report authorities (snapshots_of (pages s past)) past
unfolding journal.entries_report
written authorities s past right =
    let published = snapshots_of (pages s past) in
    ap (λ (xs : List Shown). head_line ++ entries_text authorities 1 xs) (sym (same_shown s published [] past right (sym (append-nil published))))

pub front_is_reported : FrontIsReported
front_is_reported s authorities later past right =
    let rest = shown_behind s later past in
    let snapshots = unwrap_or (latest_number (pages s (later ++ past))) 0 in
    subst (λ (front : List ℕ). IsFrontOf front (report_text authorities (shown_in s (later ++ past)) snapshots)) (written authorities s past (right_before s later past right))
    (subst (λ (xs : List Shown). IsFrontOf (head_line ++ entries_text authorities 1 (shown_in s past)) (report_text authorities xs snapshots)) (sym rest.1)
    (front_report authorities (shown_in s past) rest.0 snapshots))
