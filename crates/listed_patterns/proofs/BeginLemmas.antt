-- What the lines of a report behind its patterns begin with.
use Rattle.std.proofs.Common.{◌≡◌, ℕ, zero, suc, ◌+◌, ◌/◌, ◌%◌, List, [], ◌∷◌, ◌++◌, false, eqb, Option, Some, None, codes, refl, ap, ◌∙◌, arith, append_assoc}
use Rattle.std.specs.Fmt.{decimal, digit_glyph, digits, digits_onto}
use Rattle.std.proofs.lemmas.Bool.{cond_both}
use Rattle.std.proofs.lemmas.Bool.Decides.{nat_tests}
use Rattle.xds_bootstrap.specs.declared.bootstrap.AuthorityEntry.{AuthorityEntry}
use Rattle.cluster_tree.specs.declared.snapshot.Snapshot.{Snapshot}
use Rattle.call_journal.specs.declared.entry.Entry.{Entry}
use Rattle.call_journal.specs.declared.reply.Sent.{Sent}
use Rattle.report_parts.specs.RequestText.{request_line}
use Rattle.report_parts.specs.Snapshots.{snapshot_line, snapshot_lines}
use Rattle.report_text.specs.EntryText.{entry_line, entry_lines, more_lines, request_lines, what_line}
use Rattle.report_text.specs.ReportLines.{Shown, end_line, entries_text}
use Rattle.listed_patterns.specs.ListedLaws.{PatternsEnd, begins_pattern, begins_space}

-- ---- no pattern

-- what doesn't begin with a space
pub no_pattern : (text : List ℕ) → begins_space text ≡ false → begins_pattern text ≡ false
no_pattern [] h = refl
no_pattern (b ∷ bs) h = rw h refl

request_first : (a : List AuthorityEntry) (sent : Sent) (t : List ℕ) → begins_pattern (request_line a sent ++ t) ≡ false
unfolding request_line
request_first a sent t = refl

snapshot_first : (s : Option Snapshot) (t : List ℕ) → begins_space t ≡ false → begins_pattern (snapshot_lines s ++ t) ≡ false
unfolding snapshot_line
snapshot_first None t h = no_pattern t h
snapshot_first (Some s) t h = refl

pub patterns_end : PatternsEnd
unfolding request_lines
patterns_end a [] s later h = snapshot_first s later h
patterns_end a (x ∷ xs) s later h =
    let behind : List ℕ = snapshot_lines s ++ later in
    ap begins_pattern (append_assoc (request_line a x) (request_lines a xs) behind) ∙ request_first a x (request_lines a xs ++ behind)

-- ---- no space

-- what begins with no space, before any text
abbrev HasNoSpace : List ℕ → Type 0
HasNoSpace text = (behind : List ℕ) → begins_space (text ++ behind) ≡ false

longer : (x y : List ℕ) → HasNoSpace x → HasNoSpace (x ++ y)
longer x y h behind = ap begins_space (append_assoc x y behind) ∙ h (y ++ behind)

glyph_other : (n : ℕ) (after : List ℕ) → HasNoSpace (digit_glyph false (n % 10) ∷ after)
glyph_other n after behind = grind (arith, nat_tests)

digits_first : (k n c : ℕ) (after : List ℕ) → HasNoSpace (c ∷ after) → HasNoSpace (digits_onto k 10 false n (c ∷ after))
digits_first zero n c after h = h
digits_first (suc k) n c after h =
    let glyph : ℕ = digit_glyph false (n % 10) in
    cond_both (eqb (n / 10) 0) (glyph ∷ c ∷ after) (digits_onto k 10 false (n / 10) (glyph ∷ c ∷ after)) HasNoSpace
    (λ _. glyph_other n (c ∷ after)) (λ _. digits_first k (n / 10) glyph (c ∷ after) (glyph_other n (c ∷ after)))

number_first : (n : ℕ) → HasNoSpace (decimal n)
unfolding digits
number_first n =
    let glyph : ℕ = digit_glyph false (n % 10) in
    cond_both (eqb (n / 10) 0) (glyph ∷ []) (digits_onto 63 10 false (n / 10) (glyph ∷ [])) HasNoSpace
    (λ _. glyph_other n []) (λ _. digits_first 63 (n / 10) glyph [] (glyph_other n []))

entry_first : (a : List AuthorityEntry) (s : Option Snapshot) (c : Option (List ℕ)) (n : ℕ) (e : Entry) → HasNoSpace (entry_lines a s c n e)
unfolding entry_lines entry_line
entry_first a s c n e =
    let one : List ℕ = decimal n ++ codes " " in
    let two : List ℕ = one ++ decimal e.line ++ codes " " in
    let what : List ℕ = what_line a s c e.actor e.what in
    let first : HasNoSpace two = longer (one ++ decimal e.line) (codes " ") (longer one (decimal e.line) (longer (decimal n) (codes " ") (number_first n))) in
    longer (two ++ what) (more_lines a s e.what) (longer two what first)

-- the entries of a report and its last line
pub entries_first : (a : List AuthorityEntry) (n : ℕ) (shown : List Shown) (entries snapshots : ℕ) → begins_space (entries_text a n shown ++ end_line entries snapshots) ≡ false
unfolding entries_text end_line
entries_first a n [] entries snapshots = refl
entries_first a n (x ∷ xs) entries snapshots =
    longer (entry_lines a x.snapshot x.cluster n x.entry) (entries_text a (n + 1) xs) (entry_first a x.snapshot x.cluster n x.entry) (end_line entries snapshots)
