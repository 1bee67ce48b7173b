-- The document of a session's bootstrap (this project's own format).
use Rattle.std.specs.Prelude.{ℕ, List, [], ◌∷◌, codes, Option, Some, None, option_and_then}
use Rattle.session_lines.specs.Lines.{lines_of}
use Rattle.xds_name.specs.NameTexts.{after}

abbrev pub second_line : List (List ℕ) → Option (List ℕ)
second_line [] = None
second_line (line ∷ []) = None
second_line (line ∷ second ∷ lines) = Some second

-- what stands after `boot ` in line 2
abbrev pub document_in : List ℕ → Option (List ℕ)
document_in bytes = option_and_then (after (codes "boot ")) (second_line (lines_of bytes))
