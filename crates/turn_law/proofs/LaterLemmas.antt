-- The text behind the entries of a past.
use Rattle.std.proofs.Common.{◌≡◌, ℕ, ◌+◌, List, [], ◌∷◌, ◌++◌, drop, length, reverse, refl, sym, ap, ◌∙◌, append_assoc, arith}
use Rattle.std.specs.Option.{unwrap_or}
use Rattle.std.proofs.lemmas.List.{append-nil, drop_at, length-append, reverse-append, reverse-reverse}
use Rattle.xds_bootstrap.specs.declared.bootstrap.AuthorityEntry.{AuthorityEntry}
use Rattle.call_journal.specs.declared.entry.Entry.{Entry}
use Rattle.call_journal.specs.declared.entry.What.{What}
use Rattle.session_lines.specs.Lines.{lines_of}
use Rattle.text_law.specs.report_text.EntryText.{entry_lines, more_lines}
use Rattle.text_law.specs.report_text.ReportLines.{Shown, end_line, entries_text, head_line, report_text}
use Rattle.text_law.specs.xds_history.Page.{latest_number}
use Rattle.text_law.specs.xds_history.Pages.{page_of, pages}
use Rattle.text_law.specs.xds_history.Setting.{Setting}
use Rattle.text_law.specs.xds_history.declared.page.Page.{Page}
use Rattle.text_law.specs.legal_history.Report.{shown_entries}
use Rattle.text_law.proofs.AfterLemmas.{onto, onto_is, shown_after, shown_next, text_after, text_cut}
use Rattle.turn_law.specs.LinesBehind.{later_text, newest_more_lines}

-- ---- what is shown

-- what entries show behind a past stands behind what the past shows
shown_onto : (s : Setting) (past es : List Entry) → shown_entries (pages s (onto es past)) ≡ shown_entries (pages s past) ++ shown_after s past es
shown_onto s past [] = sym (append-nil (shown_entries (pages s past)))
shown_onto s past (e ∷ es) =
    shown_onto s (e ∷ past) es ∙ append_assoc (shown_entries (pages s past)) (shown_next s past e ∷ []) (shown_after s (e ∷ past) es)

shown_length : (s : Setting) (history : List Entry) → length (shown_entries (pages s history)) ≡ length history
shown_length s [] = refl
shown_length s (e ∷ past) =
    let more : length (shown_entries (pages s past)) ≡ length past = shown_length s past in
    length-append (shown_entries (pages s past)) (shown_next s past e ∷ []) ∙ omega (arith, more)

shown_later : (s : Setting) (later past : List Entry) → drop (length past) (shown_entries (pages s (later ++ past))) ≡ shown_after s past (reverse later)
shown_later s later past =
    let same : later ++ past ≡ onto (reverse later) past = sym (onto_is (reverse later) past ∙ ap (λ (l : List Entry). l ++ past) (reverse-reverse later)) in
    ap (λ (history : List Entry). drop (length past) (shown_entries (pages s history))) same
    ∙ (ap (λ (shown : List Shown). drop (length past) shown) (shown_onto s past (reverse later))
    ∙ drop_at (shown_entries (pages s past)) (shown_after s past (reverse later)) (length past) (shown_length s past))

-- ---- the text of later entries

abbrev pub last_line : Setting → List Entry → List ℕ
last_line s history = end_line (length (shown_entries (pages s history))) (unwrap_or (latest_number (pages s history)) 0)

pub later_is : (s : Setting) (authorities : List AuthorityEntry) (later past : List Entry)
    → later_text authorities (length past) (pages s (later ++ past)) ≡ text_after authorities s past (length past + 1) (reverse later) (last_line s (later ++ past))
later_is s authorities later past = ap (λ (shown : List Shown). entries_text authorities (length past + 1) shown ++ last_line s (later ++ past)) (shown_later s later past)

-- the oldest of the later entries is the next one
pub next_text : (s : Setting) (authorities : List AuthorityEntry) (later : List Entry) (e : Entry) (past : List Entry)
    → later_text authorities (length past) (pages s ((later ++ e ∷ []) ++ past))
    ≡ entry_lines authorities (shown_next s past e).snapshot (shown_next s past e).cluster (length past + 1) e ++ later_text authorities (length (e ∷ past)) (pages s (later ++ e ∷ past))
next_text s authorities later e past =
    let number : length past + 1 + 1 ≡ length (e ∷ past) + 1 = omega arith in
    let end : List ℕ = last_line s (later ++ e ∷ past) in
    later_is s authorities (later ++ e ∷ []) past
    ∙ (ap (λ (es : List Entry). text_after authorities s past (length past + 1) es (last_line s ((later ++ e ∷ []) ++ past))) (reverse-append later (e ∷ []))
    ∙ (ap (λ (history : List Entry). text_after authorities s past (length past + 1) (e ∷ reverse later) (last_line s history)) (append_assoc later (e ∷ []) past)
    ∙ (text_cut authorities s past (length past + 1) e (reverse later) end
    ∙ ap (λ (text : List ℕ). entry_lines authorities (shown_next s past e).snapshot (shown_next s past e).cluster (length past + 1) e ++ text)
    (ap (λ (n : ℕ). text_after authorities s (e ∷ past) n (reverse later) end) number ∙ sym (later_is s authorities later (e ∷ past))))))

-- ---- what goes on in the newest entry

shown_is : (s : Setting) (e : Entry) (what : What) (past : List Entry) (ps : List Page) → (page_of s e what past ps).entry ≡ e
shown_is s e (What.Driver event reply) past ps = refl
shown_is s e (What.Caller event reply) past ps = refl

pub newest_is : (s : Setting) (authorities : List AuthorityEntry) (e : Entry) (past : List Entry)
    → newest_more_lines authorities (pages s (e ∷ past)) ≡ more_lines authorities (shown_next s past e).snapshot e.what
newest_is s authorities e past = ap (λ (x : Entry). more_lines authorities (shown_next s past e).snapshot x.what) (shown_is s e e.what past (pages s past))

-- ---- the first line of a report

behind_head : (text : List ℕ) → drop 1 (lines_of (head_line ++ text)) ≡ lines_of text
unfolding lines_of head_line
behind_head text = refl

report_behind : (authorities : List AuthorityEntry) (shown : List Shown) (snapshots : ℕ)
    → drop 1 (lines_of (report_text authorities shown snapshots)) ≡ lines_of (entries_text authorities 1 shown ++ end_line (length shown) snapshots)
unfolding report_text
report_behind authorities shown snapshots =
    ap (λ text. drop 1 (lines_of text)) (append_assoc head_line (entries_text authorities 1 shown) (end_line (length shown) snapshots))
    ∙ behind_head (entries_text authorities 1 shown ++ end_line (length shown) snapshots)

-- where there is no past, all is later
pub all_later : (s : Setting) (authorities : List AuthorityEntry) (history : List Entry)
    → lines_of (later_text authorities 0 (pages s (history ++ []))) ≡ drop 1 (lines_of (report_text authorities (shown_entries (pages s history)) (unwrap_or (latest_number (pages s history)) 0)))
all_later s authorities history =
    ap (λ (all : List Entry). lines_of (later_text authorities 0 (pages s all))) (append-nil history)
    ∙ sym (report_behind authorities (shown_entries (pages s history)) (unwrap_or (latest_number (pages s history)) 0))
