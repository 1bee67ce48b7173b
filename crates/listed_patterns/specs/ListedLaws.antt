-- What the lines behind the first one of an entry list (this project's own format).
use Rattle.std.specs.Prelude.{◌≡◌, ℕ, List, [], ◌∷◌, ◌++◌, ◌==◌, take, Bool, false, Option, Some, All}
use Rattle.std.specs.Str.{IsUtf8, bytes_eq}
use Rattle.xds_bootstrap.specs.declared.bootstrap.AuthorityEntry.{AuthorityEntry}
use Rattle.cluster_tree.specs.declared.snapshot.Snapshot.{Snapshot}
use Rattle.call_journal.specs.declared.entry.What.{What}
use Rattle.call_journal.specs.declared.entry.What.TheVariants.{Driver, Caller}
use Rattle.call_journal.specs.declared.reply.Sent.{Sent}
use Rattle.report_parts.specs.Snapshots.{snapshot_lines}
use Rattle.report_text.specs.EntryText.{more_lines, pattern_lines, request_lines}
use Rattle.report_text.specs.ReportLines.{Shown, end_line, entries_text}
use Rattle.listed_patterns.specs.ListedPatterns.{listed_in, pattern_front}

-- whether a text begins as the line of a refused pattern does, and whether it begins with a space
abbrev pub begins_pattern : List ℕ → Bool
begins_pattern text = bytes_eq (take 6 text) pattern_front

abbrev pub begins_space : List ℕ → Bool
begins_space [] = false
begins_space (b ∷ bs) = b == 32

-- lines of patterns, before a rest that doesn't begin as such a line
abbrev pub ListedOfLines : Type 0
ListedOfLines =
    (refused : List (List ℕ)) (rest : List ℕ) → All IsUtf8 refused → begins_pattern rest ≡ false
    → listed_in (pattern_lines refused ++ rest) ≡ Some refused

-- what stands behind the patterns of an entry is such a rest
abbrev pub PatternsEnd : Type 0
PatternsEnd =
    (authorities : List AuthorityEntry) (sent : List Sent) (snapshot : Option Snapshot) (later : List ℕ) → begins_space later ≡ false
    → begins_pattern (request_lines authorities sent ++ (snapshot_lines snapshot ++ later)) ≡ false

-- the patterns that an entry refused; a caller's entry refuses none
abbrev pub refused_in : What → List (List ℕ)
refused_in (Driver event reply) = reply.refused
refused_in (Caller event reply) = []

-- the lines of an entry behind its first one, then the entries after it, and the last line
abbrev pub ListedOfEntry : Type 0
ListedOfEntry =
    (authorities : List AuthorityEntry) (snapshot : Option Snapshot) (what : What) (n : ℕ) (shown : List Shown) (entries snapshots : ℕ)
    → All IsUtf8 (refused_in what)
    → listed_in (more_lines authorities snapshot what ++ (entries_text authorities n shown ++ end_line entries snapshots)) ≡ Some (refused_in what)
