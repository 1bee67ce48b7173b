-- What comes of a turn of a report that was to be played (this project's own).
use Rattle.std.specs.Prelude.{◌≡◌, ℕ, ◌==◌, if◌then◌else◌, Option, None, Some, Result, Ok, Err, IsErr, IsOk}
use Rattle.std.specs.declared.alloc.AllocError.{AllocError}
use Rattle.report_turns.specs.declared.misplaced_turns.Misplaced.{Misplaced}
use Rattle.turn_steps.specs.declared.halts.Halt.{Halt}
use Rattle.turn_steps.specs.declared.halts.Halt.TheVariants as halt
use Rattle.replay_steps.specs.declared.next_turns.Next.{Next}
use Rattle.replay_steps.specs.declared.next_turns.Next.TheVariants as next

-- the last sweep, which is of line 0, is the last turn
abbrev pub next_made : ℕ → Next
next_made line = if line == 0 then next.End else next.Played

-- what comes of a turn of this line that was to be played
abbrev pub IsNextAfter : ℕ → Result (Option Misplaced) Halt → Result Next AllocError → Type 0
IsNextAfter line (Ok None) result = result ≡ Ok (next_made line)
IsNextAfter line (Ok (Some why)) result = IsOk result
IsNextAfter line (Err halt.Strange) result = IsOk result
IsNextAfter line (Err halt.Memory) result = IsErr result

-- the turn can't be played
abbrev pub IsWrong : Next → Type 0
IsWrong next.Played = ⊥
IsWrong next.End = ⊥
IsWrong (next.Wrong mistake) = Unit {0}
