-- The laws of what is listed.
use Rattle.std.proofs.Common.{◌≡◌, ℕ, List, [], ◌∷◌, ◌++◌, take, All, Bool, true, false, Option, Some, codes, refl, sym, ap, ◌∙◌, append_assoc}
use Rattle.std.specs.Str.{IsUtf8, bytes_eq}
use Rattle.std.proofs.lemmas.List.Elements.{All-append, All-cons, All-head, All-nil, All-tail}
use Rattle.std.proofs.lemmas.Slice.Eq.{bytes_eq-Decides}
use Rattle.xds_bootstrap.specs.declared.bootstrap.AuthorityEntry.{AuthorityEntry}
use Rattle.cluster_tree.specs.declared.snapshot.Snapshot.{Snapshot}
use Rattle.call_journal.specs.declared.entry.What.{What}
use Rattle.call_journal.specs.declared.reply.DriverReply.{DriverReply}
use Rattle.xds_name.specs.NameTexts.{after}
use Rattle.session_lines.specs.Lines.{lines_of}
use Rattle.session_lines.specs.WordValues.{decoded}
use Rattle.tree_text.specs.Escapes.{escaped}
use Rattle.report_parts.specs.RequestText.{pattern_line}
use Rattle.report_parts.specs.Snapshots.{snapshot_lines}
use Rattle.report_text.specs.EntryText.{pattern_lines, reply_lines, request_lines}
use Rattle.report_text.specs.ReportLines.{end_line, entries_text}
use Rattle.listed_patterns.specs.ListedPatterns.{and_listed, listed_first, listed_from, listed_in, pattern_front}
use Rattle.listed_patterns.specs.ListedLaws.{ListedOfEntry, ListedOfLines, PatternsEnd, begins_pattern}
use Rattle.listed_patterns.proofs.EscapeLemmas.{IsOther, escaped_no_feed, escapes_undone}
use Rattle.listed_patterns.proofs.LineLemmas.{first_line, front_of_line}
use Rattle.listed_patterns.proofs.ListingLemmas.{decoded_is}
use Rattle.listed_patterns.proofs.BeginLemmas as begin

-- ---- nothing is listed

no_front : (t : Bool) (rest line : List ℕ) (lines : List (List ℕ)) → bytes_eq (take 6 line) pattern_front ≡ t → begins_pattern rest ≡ false → lines_of rest ≡ line ∷ lines
    → listed_from (line ∷ lines) ≡ Some []
no_front false rest line lines is h cut = rw is refl
no_front true rest line lines is h cut =
    let begins : take 6 rest ≡ pattern_front = front_of_line pattern_front rest line lines cut ((bytes_eq-Decides (take 6 line) pattern_front).0 is) in
    let both : true ≡ false = sym ((bytes_eq-Decides (take 6 rest) pattern_front).1 begins) ∙ h in
    absurd (cc both)

none_by : (lines : List (List ℕ)) (rest : List ℕ) → begins_pattern rest ≡ false → lines_of rest ≡ lines → listed_from lines ≡ Some []
none_by [] rest h cut = refl
none_by (line ∷ lines) rest h cut = no_front (bytes_eq (take 6 line) pattern_front) rest line lines refl h cut

none_listed : (rest : List ℕ) → begins_pattern rest ≡ false → listed_in rest ≡ Some []
unfolding listed_in
none_listed rest h = none_by (lines_of rest) rest h refl

-- ---- one pattern, and more behind it

front_plain : All IsOther pattern_front
front_plain =
    All-cons IsOther 32 (codes " pat ") refl (All-cons IsOther 32 (codes "pat ") refl (All-cons IsOther 112 (codes "at ") refl
    (All-cons IsOther 97 (codes "t ") refl (All-cons IsOther 116 (codes " ") refl (All-cons IsOther 32 [] refl (All-nil IsOther))))))

line_parts : (text rest : List ℕ) → pattern_line text ++ rest ≡ (pattern_front ++ escaped text) ++ 10 ∷ rest
unfolding pattern_line
line_parts text rest = append_assoc (pattern_front ++ escaped text) (codes "\n") rest

line_cut : (text rest : List ℕ) → lines_of (pattern_line text ++ rest) ≡ (pattern_front ++ escaped text) ∷ lines_of rest
line_cut text rest =
    ap lines_of (line_parts text rest)
    ∙ first_line (pattern_front ++ escaped text) rest (All-append IsOther pattern_front (escaped text) front_plain (escaped_no_feed text))

behind_front : (spelled : List ℕ) → after pattern_front (pattern_front ++ spelled) ≡ Some spelled
behind_front spelled = refl

spelled_again : (text : List ℕ) → IsUtf8 text → decoded (escaped text) ≡ Some text
spelled_again text h =
    let undone = escapes_undone text h in
    sym (decoded_is (escaped text) text (rw undone h) (sym undone))

one_listed : (text rest : List ℕ) → IsUtf8 text → listed_in (pattern_line text ++ rest) ≡ and_listed (Some text) (listed_in rest)
unfolding listed_in
one_listed text rest h =
    ap listed_from (line_cut text rest)
    ∙ (ap (λ o. listed_first o (listed_from (lines_of rest))) (behind_front (escaped text)) ∙ ap (λ o. and_listed o (listed_from (lines_of rest))) (spelled_again text h))

pub listed_of_lines : ListedOfLines
unfolding pattern_lines
listed_of_lines [] rest h other = none_listed rest other
listed_of_lines (text ∷ texts) rest h other =
    ap listed_in (append_assoc (pattern_line text) (pattern_lines texts) rest)
    ∙ (one_listed text (pattern_lines texts ++ rest) (All-head IsUtf8 text texts h) ∙ ap (and_listed (Some text)) (listed_of_lines texts rest (All-tail IsUtf8 text texts h) other))

-- ---- an entry

pub patterns_end : PatternsEnd
patterns_end = begin.patterns_end

reply_parts : (a : List AuthorityEntry) (s : Option Snapshot) (r : DriverReply) (later : List ℕ)
    → reply_lines a s r ++ later ≡ pattern_lines r.refused ++ (request_lines a r.sent ++ (snapshot_lines s ++ later))
unfolding reply_lines
reply_parts a s r later =
    append_assoc (pattern_lines r.refused ++ request_lines a r.sent) (snapshot_lines s) later
    ∙ append_assoc (pattern_lines r.refused) (request_lines a r.sent) (snapshot_lines s ++ later)

pub listed_of_entry : ListedOfEntry
listed_of_entry a s (What.Driver event r) n shown entries snapshots h =
    let later : List ℕ = entries_text a n shown ++ end_line entries snapshots in
    ap listed_in (reply_parts a s r later)
    ∙ listed_of_lines r.refused (request_lines a r.sent ++ (snapshot_lines s ++ later)) h (patterns_end a r.sent s later (begin.entries_first a n shown entries snapshots))
listed_of_entry a s (What.Caller event r) n shown entries snapshots h =
    let later : List ℕ = entries_text a n shown ++ end_line entries snapshots in
    none_listed later (begin.no_pattern later (begin.entries_first a n shown entries snapshots))
