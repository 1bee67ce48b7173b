-- Of how many calls a fraction speaks (Envoy's FractionalPercent.DenominatorType).
use Rattle.std.specs.Prelude.{ℕ, ◌==◌, Bool, ◌||◌}

abbrev pub is_denominator : ℕ → Bool
is_denominator of = of == 100 || of == 10000 || of == 1000000
