-- The generated text spells the generated session (this project's own format).
use Rattle.std.specs.Prelude.{◌≡◌, ◌≤◌, ℕ, Ok}
use Rattle.session_lines.specs.Session.{session_of}
use Rattle.session_generator.specs.Generated.{generated}
use Rattle.generated_law.specs.GeneratedSession.{generated_session}

-- the text of so many rounds, at most 1,000, is read as the session of so many rounds
abbrev pub GeneratedSpells : Type 0
GeneratedSpells = (n : ℕ) → n ≤ 1000 → session_of (generated n) ≡ Ok (generated_session n)
