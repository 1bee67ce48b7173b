-- The text of a history, cut behind some of its entries.
use Rattle.std.proofs.Common.{◌≡◌, ℕ, ◌+◌, List, [], ◌∷◌, ◌++◌, reverse, length, true, false, eqb, get_or, refl, sym, ap, ◌∙◌, append_assoc, arith}
use Rattle.std.proofs.lemmas.List.{append-nil, append_cancel_left, reverse-append, reverse-reverse}
use Rattle.std.specs.Fmt.{decimal}
use Rattle.xds_bootstrap.specs.declared.bootstrap.AuthorityEntry.{AuthorityEntry}
use Rattle.call_journal.specs.declared.entry.Entry.{Entry}
use Rattle.call_journal.specs.declared.entry.What.{What}
use Rattle.legal_history.specs.report_text.EntryText.{entry_lines}
use Rattle.legal_history.specs.report_text.ReportLines.{Shown, end_line, entries_text, head_line, report_text}
use Rattle.legal_history.specs.xds_history.Setting.{Setting}
use Rattle.legal_history.specs.xds_history.declared.page.Page.{Page}
use Rattle.legal_history.specs.xds_history.Pages.{page_of, pages}
use Rattle.legal_history.specs.Report.{shown_entries, shown_entry}
use Rattle.text_law.proofs.Texts.{begins_pattern}
use Rattle.text_law.proofs.EntryLemmas.{entry_parts, tail_of}
use Rattle.text_law.proofs.TextLemmas.{letter_first, number_first}

-- entries onto a past, the oldest of them first
abbrev pub onto : List Entry → List Entry → List Entry
onto [] past = past
onto (e ∷ es) past = onto es (e ∷ past)

abbrev pub shown_next : Setting → List Entry → Entry → Shown
shown_next s past e = shown_entry (page_of s e e.what past (pages s past)) (pages s past)

-- it is the entry itself
shown_is : (s : Setting) (e : Entry) (what : What) (past : List Entry) (ps : List Page) → (page_of s e what past ps).entry ≡ e
shown_is s e (What.Driver event reply) past ps = refl
shown_is s e (What.Caller event reply) past ps = refl

-- what entries show after a past
abbrev pub shown_after : Setting → List Entry → List Entry → List Shown
shown_after s past [] = []
shown_after s past (e ∷ es) = shown_next s past e ∷ shown_after s (e ∷ past) es

shown_onto : (s : Setting) (past es : List Entry) → shown_entries (pages s (onto es past)) ≡ shown_entries (pages s past) ++ shown_after s past es
shown_onto s past [] = sym (append-nil (shown_entries (pages s past)))
shown_onto s past (e ∷ es) =
    shown_onto s (e ∷ past) es ∙ append_assoc (shown_entries (pages s past)) (shown_next s past e ∷ []) (shown_after s (e ∷ past) es)

pub onto_is : (es past : List Entry) → onto es past ≡ reverse es ++ past
onto_is [] past = refl
onto_is (e ∷ es) past = onto_is es (e ∷ past) ∙ (sym (append_assoc (reverse es) (e ∷ []) past) ∙ ap (λ (l : List Entry). l ++ past) (sym (reverse-append (e ∷ []) es)))

-- the text of entries after a past, of which the first is entry n, with the end
abbrev pub text_after : List AuthorityEntry → Setting → List Entry → ℕ → List Entry → List ℕ → List ℕ
text_after a s past n es end = entries_text a n (shown_after s past es) ++ end

pub text_cut : (a : List AuthorityEntry) (s : Setting) (past : List Entry) (n : ℕ) (e : Entry) (es : List Entry) (end : List ℕ)
    → text_after a s past n (e ∷ es) end ≡ entry_lines a (shown_next s past e).snapshot (shown_next s past e).cluster n e ++ text_after a s (e ∷ past) (n + 1) es end
unfolding entries_text
text_cut a s past n e es end =
    append_assoc (entry_lines a (shown_next s past e).snapshot (shown_next s past e).cluster n (shown_next s past e).entry) (entries_text a (n + 1) (shown_after s (e ∷ past) es)) end
    ∙ ap (λ (x : Entry). entry_lines a (shown_next s past e).snapshot (shown_next s past e).cluster n x ++ text_after a s (e ∷ past) (n + 1) es end) (shown_is s e e.what past (pages s past))

pub text_end : (a : List AuthorityEntry) (s : Setting) (past : List Entry) (n : ℕ) (end : List ℕ) → text_after a s past n [] end ≡ end
unfolding entries_text
text_end a s past n end = refl

-- a text that begins with an entry begins with its number
text_number : (a : List AuthorityEntry) (s : Setting) (past : List Entry) (n : ℕ) (e : Entry) (es : List Entry) (end : List ℕ)
    → text_after a s past n (e ∷ es) end ≡ decimal n ++ 32 ∷ (decimal e.line ++ 32 ∷ tail_of a (shown_next s past e).snapshot (shown_next s past e).cluster e (text_after a s (e ∷ past) (n + 1) es end))
text_number a s past n e es end = text_cut a s past n e es end ∙ entry_parts a (shown_next s past e).snapshot (shown_next s past e).cluster n e (text_after a s (e ∷ past) (n + 1) es end)

end_first : (i j : ℕ) → begins_pattern (end_line i j) ≡ false
unfolding end_line
end_first i j = refl

end_letter : (i j : ℕ) → eqb (get_or (end_line i j) 0 0) 101 ≡ true
unfolding end_line
end_letter i j = refl

-- what follows an entry doesn't begin as a pattern's line
pub rest_first : (a : List AuthorityEntry) (s : Setting) (past : List Entry) (n : ℕ) (es : List Entry) (i j : ℕ) → begins_pattern (text_after a s past n es (end_line i j)) ≡ false
unfolding entries_text
rest_first a s past n [] i j = end_first i j
rest_first a s past n (e ∷ es) i j = ap begins_pattern (text_number a s past n e es (end_line i j)) ∙ number_first n _

-- the end isn't read as an entry
pub end_differs : (a : List AuthorityEntry) (s : Setting) (past : List Entry) (n : ℕ) (e : Entry) (es : List Entry) (end : List ℕ) (i j : ℕ)
    → end_line i j ≡ text_after a s past n (e ∷ es) end → ⊥
end_differs a s past n e es end i j is =
    let other : eqb (get_or (text_after a s past n (e ∷ es) end) 0 0) 101 ≡ false = ap (λ (x : List ℕ). eqb (get_or x 0 0) 101) (text_number a s past n e es end) ∙ letter_first 101 n _ (omega arith) in
    let both : eqb (get_or (end_line i j) 0 0) 101 ≡ false = ap (λ (x : List ℕ). eqb (get_or x 0 0) 101) is ∙ other in
    absurd (cc (both, end_letter i j))

-- one text of two histories is one text of their entries, the oldest first
pub report_entries : (a : List AuthorityEntry) (s : Setting) (es fs : List Entry) (i k : ℕ)
    → report_text a (shown_entries (pages s (onto es []))) i ≡ report_text a (shown_entries (pages s (onto fs []))) k
    → text_after a s [] 1 es (end_line (length (shown_entries (pages s (onto es [])))) i) ≡ text_after a s [] 1 fs (end_line (length (shown_entries (pages s (onto fs [])))) k)
unfolding report_text
report_entries a s es fs i k is =
    let first = ap (λ (x : List Shown). entries_text a 1 x ++ end_line (length (shown_entries (pages s (onto es [])))) i) (shown_onto s [] es) in
    let second = ap (λ (x : List Shown). entries_text a 1 x ++ end_line (length (shown_entries (pages s (onto fs [])))) k) (shown_onto s [] fs) in
    let both = append_cancel_left head_line _ _
    (sym (append_assoc head_line (entries_text a 1 (shown_entries (pages s (onto es [])))) (end_line (length (shown_entries (pages s (onto es [])))) i))
    ∙ (is ∙ append_assoc head_line (entries_text a 1 (shown_entries (pages s (onto fs [])))) (end_line (length (shown_entries (pages s (onto fs [])))) k))) in
    sym first ∙ (both ∙ second)

pub onto_reverse : (history : List Entry) → onto (reverse history) [] ≡ history
onto_reverse history = onto_is (reverse history) [] ∙ (append-nil (reverse (reverse history)) ∙ reverse-reverse history)
