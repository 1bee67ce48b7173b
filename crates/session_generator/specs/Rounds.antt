-- The rounds of the generated session: each of four callers starts a call, picks twice and commits; three moments are
-- told, and one endpoint changes its state (this project's own format).
use Rattle.std.specs.Prelude.{ℕ, ◌+◌, ◌-◌, ◌*◌, ◌%◌, ◌^◌, ◌==◌, List, ◌++◌, codes, if◌then◌else◌}
use Rattle.std.specs.Fmt.{decimal}

-- the word of a call: steps of the golden ratio in 64 bits
abbrev pub word_of_call : ℕ → ℕ
word_of_call call = call * 11400714819323198485 % 2 ^ 64

-- ---- what a caller does

unfoldable pub start_line : ℕ → ℕ → ℕ → List ℕ
start_line gate caller call =
    codes "@" ++ decimal gate ++ codes " c " ++ decimal caller ++ codes " start " ++ decimal call ++ codes " " ++ decimal (word_of_call call) ++ codes " /load.S/M\n"

unfoldable pub pick_line : ℕ → ℕ → List ℕ
pick_line caller call =
    codes "c " ++ decimal caller ++ codes " pick " ++ decimal call ++ codes " " ++ decimal (word_of_call call) ++ codes "\n"

unfoldable pub commit_line : ℕ → ℕ → List ℕ
commit_line caller call = codes "c " ++ decimal caller ++ codes " commit " ++ decimal call ++ codes "\n"

-- a call of a caller, which starts after the line of the gate
unfoldable pub call_lines : ℕ → ℕ → ℕ → List ℕ
call_lines gate caller call = start_line gate caller call ++ pick_line caller call ++ pick_line caller call ++ commit_line caller call

-- ---- what the driver does

-- the moment of a round, after the line of the gate
unfoldable pub time_line : ℕ → ℕ → List ℕ
time_line gate round = codes "@" ++ decimal gate ++ codes " d time " ++ decimal round ++ codes "\n"

-- an endpoint fails in odd rounds, and is ready again in even ones
abbrev pub state_word : ℕ → List ℕ
state_word round = if round % 2 == 1 then codes "failing" else codes "ready"

unfoldable pub state_line : ℕ → ℕ → List ℕ
state_line gate round = codes "@" ++ decimal gate ++ codes " d endpoint 10.0.0.1:80 " ++ state_word round ++ codes "\n"

-- ---- a round

-- the last line before a round, from 1
abbrev pub line_before : ℕ → ℕ
line_before round = 12 + 20 * (round - 1)

-- the first call of a round
abbrev pub first_call : ℕ → ℕ
first_call round = 4 * (round - 1)

unfoldable pub caller_lines : ℕ → List ℕ
caller_lines round =
    call_lines (line_before round) 1 (first_call round)
    ++ call_lines (line_before round) 2 (first_call round + 1)
    ++ call_lines (line_before round) 3 (first_call round + 2)
    ++ call_lines (line_before round) 4 (first_call round + 3)

unfoldable pub driver_lines : ℕ → List ℕ
driver_lines round =
    time_line (line_before round + 4) round
    ++ time_line (line_before round + 8) round
    ++ time_line (line_before round + 12) round
    ++ state_line (line_before round + 16) round

unfoldable pub round_lines : ℕ → List ℕ
round_lines round = caller_lines round ++ driver_lines round
