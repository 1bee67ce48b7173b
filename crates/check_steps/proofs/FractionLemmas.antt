-- Fractions by the numbers of their denominators. That a denominator is known has one proof.
use Rattle.std.proofs.Common.{◌≡◌, ℕ, true, refl, sym, ap, subst, IsTrue, Ok, None, Option}
use mathlib.Core.Bool.{Bool-set}
use Rattle.weight_pick.specs.Denominators.{is_denominator}
use Rattle.weight_pick.specs.declared.fraction.Fraction.{Fraction}
use Rattle.proto_route.specs.declared.fractional_percent.RawFractionalPercent.{RawFractionalPercent}
use Rattle.check_steps.specs.CallFractions.{fraction_of, part_of}

abbrev pub fraction : (n of : ℕ) → IsTrue (is_denominator of) → Fraction
fraction n of known = record { n = n; of = of; known = known }

one_proof : (n of : ℕ) (p q : IsTrue (is_denominator of)) → fraction n of p ≡ fraction n of q
one_proof n of p q = ap (fraction n of) (Bool-set (is_denominator of) true p q)

abbrev raw : ℕ → ℕ → RawFractionalPercent
raw n d = record { numerator = n; denominator = d }

pub of_hundred : (n d : ℕ) (known : IsTrue (is_denominator 100)) → d ≡ 0 → fraction_of (raw n d) ≡ Ok (fraction n 100 known)
of_hundred n d known is = subst (λ k. fraction_of (raw n k) ≡ Ok (fraction n 100 known)) (sym is) (ap (λ f. Ok f) (one_proof n 100 refl known))

pub of_ten_thousand : (n d : ℕ) (known : IsTrue (is_denominator 10000)) → d ≡ 1 → fraction_of (raw n d) ≡ Ok (fraction n 10000 known)
of_ten_thousand n d known is = subst (λ k. fraction_of (raw n k) ≡ Ok (fraction n 10000 known)) (sym is) (ap (λ f. Ok f) (one_proof n 10000 refl known))

pub of_million : (n d : ℕ) (known : IsTrue (is_denominator 1000000)) → d ≡ 2 → fraction_of (raw n d) ≡ Ok (fraction n 1000000 known)
of_million n d known is = subst (λ k. fraction_of (raw n k) ≡ Ok (fraction n 1000000 known)) (sym is) (ap (λ f. Ok f) (one_proof n 1000000 refl known))

pub of_none : (part : Option RawFractionalPercent) (known : IsTrue (is_denominator 100)) → part ≡ None → part_of part ≡ Ok (fraction 0 100 known)
of_none part known is = subst (λ p. part_of p ≡ Ok (fraction 0 100 known)) (sym is) (ap (λ f. Ok f) (one_proof 0 100 refl known))
