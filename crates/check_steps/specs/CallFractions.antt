-- Fractions of calls (Envoy's FractionalPercent): the denominator is 0, 1 or 2.
use Rattle.std.specs.Prelude.{refl, ◌==◌, if◌then◌else◌, Option, Some, None, Result, Ok, Err}
use Rattle.xc_base.specs.declared.reason.Reason.TheVariants as reason
use Rattle.weight_pick.specs.declared.fraction.Fraction.{Fraction}
use Rattle.proto_route.specs.declared.fractional_percent.RawFractionalPercent.{RawFractionalPercent}
use Rattle.proto_route.specs.declared.fractional_percent.RawRuntimeFractionalPercent.{RawRuntimeFractionalPercent}
use Rattle.check_steps.specs.declared.check_fault.Stop.{Stop}
use Rattle.check_steps.specs.declared.check_fault.Stop.TheVariants.{Because}
use Rattle.check_steps.specs.TableSteps.{◌>>=◌}

-- 0 is of a hundred, 1 of ten thousand, 2 of a million
abbrev pub fraction_of : RawFractionalPercent → Result Fraction Stop
fraction_of part =
    if part.denominator == 0 then Ok record { n = part.numerator; of = 100; known = refl }
    else if part.denominator == 1 then Ok record { n = part.numerator; of = 10000; known = refl }
    else if part.denominator == 2 then Ok record { n = part.numerator; of = 1000000; known = refl }
    else Err (Because reason.Fraction)

-- one that is absent is 0 of a hundred
abbrev pub part_of : Option RawFractionalPercent → Result Fraction Stop
part_of None = Ok record { n = 0; of = 100; known = refl }
part_of (Some part) = fraction_of part

-- the fraction of a route's calls, if it has one
abbrev pub runtime_part : Option RawRuntimeFractionalPercent → Result (Option Fraction) Stop
runtime_part None = Ok None
runtime_part (Some fraction) = part_of fraction.default_value >>= λ part. Ok (Some part)
