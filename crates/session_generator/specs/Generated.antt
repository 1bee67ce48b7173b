-- The generated session (this project's own format).
use Rattle.std.specs.Prelude.{ℕ, zero, suc, List, ◌++◌}
use Rattle.session_generator.specs.FirstLines.{first_lines}
use Rattle.session_generator.specs.Rounds.{round_lines}

-- lines 1 to 12, and then so many rounds
unfoldable pub generated : ℕ → List ℕ
generated zero = first_lines
generated (suc n) = generated n ++ round_lines (suc n)
