-- The first lines of a text (this project's own).
use Rattle.std.specs.Prelude.{ℕ, zero, suc, ◌==◌, List, [], ◌∷◌, if◌then◌else◌}

-- so many of the first lines of a text, with their line feeds
unfoldable pub first_lines : ℕ → List ℕ → List ℕ
first_lines zero text = []
first_lines (suc number) [] = []
first_lines (suc number) (b ∷ bs) = b ∷ first_lines (if b == 10 then number else suc number) bs
