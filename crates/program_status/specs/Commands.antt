-- The commands of the program (this project's own).
use Rattle.std.specs.Prelude.{ℕ, ◌≤◌, List, [], ◌∷◌, String, string_bytes, codes, if◌then◌else◌, Option, Some, None, option_map}
use Rattle.std.specs.Str.{bytes_eq}
use Rattle.std.specs.declared.alloc.Global.{Global}
use Rattle.session_lines.specs.WordValues.{number_within}
use Rattle.program_status.specs.declared.commands.Command.{Command}

-- `gen` or `load`, and a number of rounds
abbrev pub command_with_number : List ℕ → List ℕ → Option Command
command_with_number word number =
    if bytes_eq word (codes "gen") then option_map Command.Gen (number_within 1 1000 number)
    else if bytes_eq word (codes "load") then option_map Command.Load (number_within 1 1000 number)
    else None

-- the words are `run`, or `gen` or `load` with a number of 1 to 1,000
abbrev pub command_of : List (String Global) → Option Command
command_of [] = None
command_of (word ∷ []) = if bytes_eq (string_bytes word) (codes "run") then Some Command.Run else None
command_of (word ∷ number ∷ []) = command_with_number (string_bytes word) (string_bytes number)
command_of (word ∷ number ∷ more ∷ words) = None

abbrev pub HasRounds : Command → Type 0
HasRounds Command.Run = Unit {0}
HasRounds (Command.Gen rounds) = (1 ≤ rounds) × (rounds ≤ 1000)
HasRounds (Command.Load rounds) = (1 ≤ rounds) × (rounds ≤ 1000)
