-- The draws of a call (this project's own).
use Rattle.std.specs.Prelude.{ℕ, ◌+◌, ◌*◌, ◌/◌, ◌%◌, ◌^◌}

-- the high half of the word and k steps of the golden ratio, in 64 bits
abbrev pub draw : ℕ → ℕ → ℕ
draw w k = (w + k * 0x9E3779B97F4A7C15) % 2 ^ 64 / 2 ^ 32
