-- Texts that have their first lines in common, and list the same patterns behind these (this project's own).
use Rattle.std.specs.Prelude.{◌≡◌, ◌<◌, ◌⊎◌, ℕ, ◌+◌, false, List, ◌∷◌, ◌++◌, Some, drop, length, slice_get}
use Rattle.xds_bootstrap.specs.declared.bootstrap.AuthorityEntry.{AuthorityEntry}
use Rattle.call_journal.specs.declared.entry.Entry.{Entry}
use Rattle.session_lines.specs.Lines.{lines_of}
use Rattle.report_turns.specs.TurnLines.{goes_on}
use Rattle.listed_patterns.specs.ListedPatterns.{listed_from}
use Rattle.report_compare.specs.xds_history.Setting.{Setting}
use Rattle.report_compare.specs.legal_history.Report.{report}
use Rattle.report_compare.specs.FirstLines.{first_lines}

-- Two texts have so many first lines in common, and behind each of these in which an entry begins both list the same patterns.
pub record GoesAlike (number : ℕ) (one other : List ℕ) : Type 0 where
  pub lines : first_lines number one ≡ first_lines number other
  pub patterns : (n : ℕ) (line : List ℕ) → n < number → slice_get (lines_of one) n ≡ Some line → goes_on line ≡ false
      → listed_from (drop (n + 1) (lines_of one)) ≡ listed_from (drop (n + 1) (lines_of other))

-- ---- the same, as lists of lines

-- the lines that two texts have in common, and those that are left of each
pub record Parting : Type 0 where
  pub common : List (List ℕ)
  pub one : List (List ℕ)
  pub other : List (List ℕ)

-- behind each of the common lines in which an entry begins, both texts list the same patterns
abbrev pub ListsAlike : Parting → Type 0
ListsAlike p =
    (front back : List (List ℕ)) (line : List ℕ) → p.common ≡ front ++ line ∷ back → goes_on line ≡ false → listed_from (back ++ p.one) ≡ listed_from (back ++ p.other)

-- two texts part behind so many lines
pub record PartsAt (number : ℕ) (one other : List ℕ) : Type 0 where
  pub parting : Parting
  pub many : length parting.common ≡ number
  pub one_is : lines_of one ≡ parting.common ++ parting.one
  pub other_is : lines_of other ≡ parting.common ++ parting.other
  pub listed : ListsAlike parting

-- a text that goes as a history's report for so many lines is that report, or parts from it behind these
abbrev pub AlikeParts : Type 0
AlikeParts =
    (number : ℕ) (one : List ℕ) (s : Setting) (authorities : List AuthorityEntry) (history : List Entry) → GoesAlike number one (report s authorities history)
    → (one ≡ report s authorities history) ⊎ PartsAt number one (report s authorities history)
