-- Lines and words of a session's bytes (this project's own format).
use Rattle.std.specs.Prelude.{ℕ, List, [], ◌∷◌, ◌==◌, Option, Some, None, if◌then◌else◌, Bool, false, not, codes, find}
use Rattle.std.specs.Option.{option_map_or}
use Rattle.std.specs.List.{onto_first, slice_split}
use Rattle.std.specs.Str.{bytes_eq}

-- the lines end with line feeds, and the last one may lack it
unfoldable pub lines_of : List ℕ → List (List ℕ)
lines_of [] = []
lines_of (b ∷ bs) = if b == 10 then [] ∷ lines_of bs else onto_first b (lines_of bs)

-- the words are parted by single spaces
abbrev pub words_of : List ℕ → List (List ℕ)
words_of line = slice_split (λ b. b == 32) line

-- the second of two words, of which this is the first
abbrev pub second_of : List ℕ → List (List ℕ) → Option (List ℕ)
second_of first [] = None
second_of first (word ∷ []) = None
second_of first (word ∷ second ∷ []) = if bytes_eq word first then Some second else None
second_of first (word ∷ second ∷ third ∷ more) = None

-- ---- the driver's lines

abbrev pub is_gate : List ℕ → Bool
is_gate [] = false
is_gate (b ∷ bs) = b == 64

abbrev pub is_driver : List ℕ → Bool
is_driver word = bytes_eq word (codes "d")

-- of these words, the first that doesn't begin with `@` is `d`
abbrev pub has_driver : List (List ℕ) → Bool
has_driver words = option_map_or is_driver (find (λ word. not (is_gate word)) words) false

unfoldable pub is_driver_line : List ℕ → Bool
is_driver_line line = has_driver (words_of line)
