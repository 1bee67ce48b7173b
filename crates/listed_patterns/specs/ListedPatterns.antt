-- The patterns that the lines of a report list first (this project's own format).
use Rattle.std.specs.Prelude.{ℕ, List, [], ◌∷◌, codes, Option, Some, None, option_map}
use Rattle.xds_name.specs.NameTexts.{after}
use Rattle.session_lines.specs.Lines.{lines_of}
use Rattle.session_lines.specs.WordValues.{decoded}

-- a line of a refused pattern begins so, and what stands behind it spells the text
abbrev pub pattern_front : List ℕ
pattern_front = codes "  pat "

-- a text before others
abbrev pub and_listed : Option (List ℕ) → Option (List (List ℕ)) → Option (List (List ℕ))
and_listed None more = None
and_listed (Some text) more = option_map (λ texts. text ∷ texts) more

-- what a line spells, before what is listed behind it; a line of another form ends the list
abbrev pub listed_first : Option (List ℕ) → Option (List (List ℕ)) → Option (List (List ℕ))
listed_first None more = Some []
listed_first (Some spelled) more = and_listed (decoded spelled) more

-- the texts of the lines of patterns up to the first line of another form; none where one of these lines spells no text
abbrev pub listed_from : List (List ℕ) → Option (List (List ℕ))
listed_from [] = Some []
listed_from (line ∷ lines) = listed_first (after pattern_front line) (listed_from lines)

unfoldable pub listed_in : List ℕ → Option (List (List ℕ))
listed_in bytes = listed_from (lines_of bytes)
