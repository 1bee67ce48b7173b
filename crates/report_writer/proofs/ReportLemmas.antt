-- The report of a journal, cut before and behind an entry.
use Rattle.std.proofs.Common.{◌≡◌, ◌<◌, ◌≤◌, ℕ, ◌+◌, List, [], ◌∷◌, ◌++◌, length, take, drop, reverse, Option, Some, unwrap_or, sym, ap, ◌∙◌, append_assoc, append-nil, arith, add-zero, refl}
use Rattle.std.specs.List.{slice_get}
use Rattle.std.proofs.lemmas.List.{take-append-drop, take_more, length-append, length-reverse, length-take-le, take_all, reverse-append, reverse-reverse}
use Rattle.std.proofs.lemmas.Option.{slice_get_within, get_or_from_slice_get}
use Rattle.xds_bootstrap.specs.declared.bootstrap.AuthorityEntry.{AuthorityEntry}
use Rattle.cluster_tree.specs.declared.snapshot.Snapshot.{Snapshot}
use Rattle.call_journal.specs.declared.event.CallerEvent.{CallerEvent}
use Rattle.call_journal.specs.declared.entry.What.{What}
use Rattle.call_journal.specs.declared.entry.Entry.{Entry}
use Rattle.report_text.specs.EntryText.{entry_lines}
use Rattle.report_text.specs.ReportLines.{Shown, end_line, entries_text, head_line}
use Rattle.report_writer.specs.JournalReport.{entries_report, held_after, holds_after, journal_report, named_in, picked_in, shown_as, shown_entries}

-- ---- entries

abbrev lines_at : List AuthorityEntry → ℕ → Shown → List ℕ
lines_at authorities n x = entry_lines authorities x.snapshot x.cluster n x.entry

-- the text of entries and one more behind them
text_more : (authorities : List AuthorityEntry) (n : ℕ) (xs : List Shown) (x : Shown) → entries_text authorities n (xs ++ (x ∷ [])) ≡ entries_text authorities n xs ++ lines_at authorities (n + length xs) x
unfolding entries_text
text_more authorities n [] x =
    let same : n ≡ n + length {A = Shown} [] = omega arith in
    append-nil (lines_at authorities n x) ∙ ap (λ m. lines_at authorities m x) same
text_more authorities n (y ∷ xs) x =
    let same : n + 1 + length xs ≡ n + length (y ∷ xs) = omega arith in
    ap (λ t. lines_at authorities n y ++ t) (text_more authorities (n + 1) xs x ∙ ap (λ m. entries_text authorities (n + 1) xs ++ lines_at authorities m x) same)
    ∙ sym (append_assoc (lines_at authorities n y) (entries_text authorities (n + 1) xs) (lines_at authorities (n + length (y ∷ xs)) x))

-- each entry is shown once
pub shown_count : (published : List Snapshot) (es : List Entry) → length (shown_entries published es) ≡ length es
shown_count published [] = refl
shown_count published (e ∷ es) =
    let counted : length (shown_entries published es ++ (shown_as published e es ∷ [])) ≡ length (shown_entries published es) + length (shown_as published e es ∷ []) = length-append (shown_entries published es) (shown_as published e es ∷ []) in
    let older : length (shown_entries published es) ≡ length es = shown_count published es in
    omega (arith, counted, older)

-- the lines of an entry behind these
abbrev pub entry_behind : List AuthorityEntry → List Snapshot → Entry → List Entry → List ℕ
entry_behind authorities published e past = entry_lines authorities (named_in published e.what) (picked_in (held_after published past) e.what) (length past + 1) e

pub one_more : (authorities : List AuthorityEntry) (published : List Snapshot) (e : Entry) (past : List Entry) → entries_report authorities published (e ∷ past) ≡ entries_report authorities published past ++ entry_behind authorities published e past
unfolding entries_report
one_more authorities published e past =
    let number : 1 + length (shown_entries published past) ≡ length past + 1 = omega (arith, shown_count published past) in
    ap (λ t. head_line ++ t) (text_more authorities 1 (shown_entries published past) (shown_as published e past) ∙ ap (λ m. entries_text authorities 1 (shown_entries published past) ++ lines_at authorities m (shown_as published e past)) number)
    ∙ sym (append_assoc head_line (entries_text authorities 1 (shown_entries published past)) (entry_behind authorities published e past))

-- newer entries stand behind older ones
newer_behind : (authorities : List AuthorityEntry) (published : List Snapshot) (newer past : List Entry) → (rest : List ℕ) × (entries_report authorities published (newer ++ past) ≡ entries_report authorities published past ++ rest)
newer_behind authorities published [] past = ([], sym (append-nil (entries_report authorities published past)))
newer_behind authorities published (e ∷ newer) past =
    let rest = newer_behind authorities published newer past in
    let lines = entry_behind authorities published e (newer ++ past) in
    (rest.0 ++ lines, one_more authorities published e (newer ++ past) ∙ (ap (λ (t : List ℕ). t ++ lines) rest.1 ∙ append_assoc (entries_report authorities published past) rest.0 lines))

-- ---- the first entries of a journal, with the newest first

abbrev pub first_entries : ℕ → List Entry → List Entry
first_entries i entries = reverse (take i (reverse entries))

pub first_more : (entries : List Entry) (i : ℕ) (e : Entry) → slice_get (reverse entries) i ≡ Some e → first_entries (i + 1) entries ≡ e ∷ first_entries i entries
first_more entries i e is =
    let lt = slice_get_within (reverse entries) i e is in
    rw (take_more (reverse entries) i e lt, get_or_from_slice_get (reverse entries) i e e is) (reverse-append (take i (reverse entries)) (e ∷ []))

pub first_count : (entries : List Entry) (i : ℕ) → i ≤ length entries → length (first_entries i entries) ≡ i
first_count entries i le =
    let short : i ≤ length (reverse entries) = rw length-reverse le in
    length-reverse (take i (reverse entries)) ∙ length-take-le i (reverse entries) short

all_first : (entries : List Entry) (i : ℕ) → entries ≡ reverse (drop i (reverse entries)) ++ first_entries i entries
all_first entries i =
    sym (reverse-reverse entries) ∙ (ap reverse (sym (take-append-drop i (reverse entries))) ∙ reverse-append (take i (reverse entries)) (drop i (reverse entries)))

-- the report of a journal goes on behind the lines of its first entries
pub so_far : (authorities : List AuthorityEntry) (published : List Snapshot) (entries : List Entry) (i : ℕ) → (rest : List ℕ) × (journal_report authorities published entries ≡ entries_report authorities published (first_entries i entries) ++ rest)
unfolding journal_report
so_far authorities published entries i =
    let last = end_line (length entries) (length published) in
    let newer = newer_behind authorities published (reverse (drop i (reverse entries))) (first_entries i entries) in
    (newer.0 ++ last, ap (λ es. entries_report authorities published es ++ last) (all_first entries i) ∙ (ap (λ (t : List ℕ). t ++ last) newer.1 ∙ append_assoc (entries_report authorities published (first_entries i entries)) newer.0 last))

-- the same with the lines of the next entry
pub so_far_and_next : (authorities : List AuthorityEntry) (published : List Snapshot) (entries : List Entry) (i : ℕ) (e : Entry) → slice_get (reverse entries) i ≡ Some e
    → (rest : List ℕ) × (journal_report authorities published entries ≡ (entries_report authorities published (first_entries i entries) ++ entry_behind authorities published e (first_entries i entries)) ++ rest)
so_far_and_next authorities published entries i e is =
    let rest = so_far authorities published entries (i + 1) in
    (rest.0, rest.1 ∙ ap (λ (t : List ℕ). t ++ rest.0) (ap (entries_report authorities published) (first_more entries i e is) ∙ one_more authorities published e (first_entries i entries)))

pub begins : (authorities : List AuthorityEntry) (published : List Snapshot) (entries : List Entry) → entries_report authorities published (first_entries 0 entries) ≡ head_line
unfolding entries_report entries_text
begins authorities published entries = append-nil head_line

-- all entries are the first ones
pub all_entries : (entries : List Entry) → first_entries (length entries) entries ≡ entries
all_entries entries =
    let whole : take (length entries) (reverse entries) ≡ reverse entries = take_all (length entries) (reverse entries) (rw length-reverse (omega arith)) in
    ap reverse whole ∙ reverse-reverse entries

pub ends : (authorities : List AuthorityEntry) (published : List Snapshot) (entries : List Entry) → journal_report authorities published entries ≡ entries_report authorities published (first_entries (length entries) entries) ++ end_line (length entries) (length published)
unfolding journal_report
ends authorities published entries = ap (λ es. entries_report authorities published es ++ end_line (length entries) (length published)) (sym (all_entries entries))

-- what is remembered of calls serves for a pick
pub same_pick : (held other : ℕ → Option (List ℕ)) (what : What) → ((id : ℕ) → held id ≡ other id) → picked_in held what ≡ picked_in other what
same_pick held other (What.Driver event reply) same = refl
same_pick held other (What.Caller (CallerEvent.Pin call) reply) same = refl
same_pick held other (What.Caller (CallerEvent.Hold call) reply) same = refl
same_pick held other (What.Caller (CallerEvent.Pick call word) reply) same = same call.0
same_pick held other (What.Caller (CallerEvent.Commit call) reply) same = refl

-- ---- a step of the writer

-- what is written for an entry are its lines
pub lines_of_entry : (authorities : List AuthorityEntry) (published : List Snapshot) (e : Entry) (past : List Entry) (snapshot : Option Snapshot) (cluster : Option (List ℕ)) (number : ℕ) (text : List ℕ)
    → text ≡ entry_lines authorities snapshot cluster number e → snapshot ≡ named_in published e.what → cluster ≡ picked_in (held_after published past) e.what → number ≡ length past + 1
    → text ≡ entry_behind authorities published e past
lines_of_entry authorities published e past snapshot cluster number text is named picked numbered =
    is ∙ (ap (λ s. entry_lines authorities s cluster number e) named
    ∙ (ap (λ k. entry_lines authorities (named_in published e.what) k number e) picked
    ∙ ap (λ n. entry_lines authorities (named_in published e.what) (picked_in (held_after published past) e.what) n e) numbered))

-- what is remembered after an entry that was followed
pub holds_on : (published : List Snapshot) (entries : List Entry) (i : ℕ) (e : Entry) (snapshot : Option Snapshot) (old new : ℕ → Option (List ℕ)) → slice_get (reverse entries) i ≡ Some e
    → snapshot ≡ named_in published e.what → ((id : ℕ) → old id ≡ held_after published (first_entries i entries) id) → ((id : ℕ) → new id ≡ unwrap_or (holds_after snapshot id e.what) (old id))
    → (id : ℕ) → new id ≡ held_after published (first_entries (i + 1) entries) id
holds_on published entries i e snapshot old new is named before after id =
    after id ∙ (ap (λ s. unwrap_or (holds_after s id e.what) (old id)) named
    ∙ (ap (λ h. unwrap_or (holds_after (named_in published e.what) id e.what) h) (before id)
    ∙ ap (λ es. held_after published es id) (sym (first_more entries i e is))))

-- the report ends behind the last entry
pub ends_at : (authorities : List AuthorityEntry) (published : List Snapshot) (entries : List Entry) (i : ℕ) → i ≡ length entries → journal_report authorities published entries ≡ entries_report authorities published (first_entries i entries) ++ end_line (length entries) (length published)
ends_at authorities published entries i e =
    ends authorities published entries ∙ ap (λ n. entries_report authorities published (first_entries n entries) ++ end_line (length entries) (length published)) (sym e)

pub last_of : (entries published n m : ℕ) (text : List ℕ) → text ≡ end_line n m → n ≡ entries → m ≡ published → text ≡ end_line entries published
last_of entries published n m text is one two = is ∙ (ap (λ k. end_line k m) one ∙ ap (end_line entries) two)
