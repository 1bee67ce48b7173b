-- Which draws meet a fraction (Envoy's FractionalPercent, with this project's own draws).
use Rattle.std.specs.Prelude.{ℕ, ◌*◌, ◌/◌, ◌^◌, Bool, nat_lt}
use Rattle.weight_pick.specs.declared.fraction.Fraction.{Fraction}

-- a draw of 32 bits, brought to a number below the denominator, is below the numerator
abbrev pub fraction_met : Fraction → ℕ → Bool
fraction_met f draw = nat_lt (draw * f.of / 2 ^ 32) f.n
