-- Which texts write a number of a range.
use Rattle.std.proofs.Common.{◌≡◌, ◌≢◌, ℕ, List, [], ◌∷◌, length, drop, get_or, Bool, true, false, cond, not, ◌&&◌, eqb, ℤ, pos, negsuc, neg_ℤ, refl, sym, ap, ◌∙◌, subst, arith}
use Rattle.std.proofs.lemmas.Bool.Decides.{nat_tests}
use Rattle.std.proofs.lemmas.Str.Parse.{IsNumeralModel, numerals_by_value, tells_all_ascii_digits, without_leading_plus_none}
use Rattle.std.specs.Prelude.{nat_lt, int_lt, FitsSigned}
use Rattle.std.specs.Str.{all_ascii_digits}
use Rattle.std.specs.Str.Parse.{IsNumeral, digits_value, without_leading_sign, signed_digits_value, starts_with_minus}
use mir.Syntax.{w64}
use Rattle.header_match.specs.Headers.{digits_of, is_number, number_of, fits_64, is_in_range}

own : IsNumeralModel (λ ds. all_ascii_digits ds ≡ true) (digits_value 10)
own = numerals_by_value (λ ds. all_ascii_digits ds ≡ true) tells_all_ascii_digits

fits_is : (z : ℤ) → FitsSigned w64 z → fits_64 z ≡ true
fits_is (pos n) h = grind (arith, nat_tests)
fits_is (negsuc n) h = grind (arith, nat_tests)

is_fit : (z : ℤ) → fits_64 z ≡ true → FitsSigned w64 z
is_fit (pos n) h = record { sfits = grind (arith, nat_tests) }
is_fit (negsuc n) h = record { sfits = grind (arith, nat_tests) }

-- without a `+`, what `parse` takes for digits are the digits of the number
same_digits : (text : List ℕ) → get_or text 0 0 ≢ 43 → without_leading_sign text ≡ digits_of text
same_digits text no_plus = ap (λ (ds : List ℕ). cond (starts_with_minus text) (drop 1 text) ds) (without_leading_plus_none text no_plus)

same_number : (text : List ℕ) → get_or text 0 0 ≢ 43 → signed_digits_value 10 text ≡ number_of text
same_number text no_plus = ap (λ (ds : List ℕ). cond (starts_with_minus text) (neg_ℤ (pos (digits_value 10 ds))) (pos (digits_value 10 ds))) (same_digits text no_plus)

numeral_is : (text : List ℕ) → IsNumeral 10 (digits_of text) → is_number text ≡ true
numeral_is text h =
    let some : nat_lt 0 (length (digits_of text)) ≡ true = grind (arith, nat_tests) in
    rw (some, own.from (digits_of text) h.1) refl

both_true : (a b : Bool) → (a && b) ≡ true → (a ≡ true) × (b ≡ true)
both_true true true e = (refl, refl)
both_true true false e = absurd (cc)
both_true false b e = absurd (cc)

is_numeral : (text : List ℕ) → is_number text ≡ true → IsNumeral 10 (digits_of text)
is_numeral text e =
    let both = both_true (nat_lt 0 (length (digits_of text))) (all_ascii_digits (digits_of text)) e in
    (grind (arith, nat_tests), own.to (digits_of text) both.1)

-- a text that was read as a number is tested by that number
pub range_of_number : (text : List ℕ) (start end z : ℤ) → get_or text 0 0 ≢ 43 → IsNumeral 10 (without_leading_sign text) → FitsSigned w64 (signed_digits_value 10 text) → z ≡ signed_digits_value 10 text → is_in_range start end text ≡ (not (int_lt z start) && int_lt z end)
range_of_number text start end z no_plus numeral fits e =
    let is = same_number text no_plus in
    rw (numeral_is text (subst (IsNumeral 10) (same_digits text no_plus) numeral), fits_is (number_of text) (subst (FitsSigned w64) is fits), e, is) refl

neither : (a b c d : Bool) → (a ≡ true → b ≡ true → ⊥) → (a && b && c && d) ≡ false
neither true true c d h = absurd (h refl refl)
neither true false c d h = refl
neither false b c d h = refl

-- any other text is in no range
pub range_of_none : (text : List ℕ) (start end : ℤ) → get_or text 0 0 ≢ 43 → (IsNumeral 10 (without_leading_sign text) × FitsSigned w64 (signed_digits_value 10 text) → ⊥) → is_in_range start end text ≡ false
range_of_none text start end no_plus h =
    neither (is_number text) (fits_64 (number_of text)) (not (int_lt (number_of text) start)) (int_lt (number_of text) end)
    (λ numeral fits. h (subst (IsNumeral 10) (sym (same_digits text no_plus)) (is_numeral text numeral), subst (FitsSigned w64) (sym (same_number text no_plus)) (is_fit (number_of text) fits)))

no_digits : (a b c d e : Bool) → b ≡ false → (a && b && c && d && e) ≡ false
no_digits true b c d e is = rw is refl
no_digits false b c d e is = refl

plus_is_no_digit : (text : List ℕ) → get_or text 0 0 ≡ 43 → all_ascii_digits text ≡ false
plus_is_no_digit [] plus = absurd (cc)
plus_is_no_digit (b ∷ bs) plus = let P : ℕ → Type 0 = λ n. all_ascii_digits (n ∷ bs) ≡ false in subst P (sym plus) refl

-- nor is one that begins with a `+`
pub range_of_plus : (text : List ℕ) (start end : ℤ) → get_or text 0 0 ≡ 43 → is_in_range start end text ≡ false
range_of_plus text start end plus =
    let minus : starts_with_minus text ≡ false = grind (arith, nat_tests) in
    let digits : digits_of text ≡ text = ap (λ (b : Bool). cond b (drop 1 text) text) minus in
    no_digits (nat_lt 0 (length (digits_of text))) (all_ascii_digits (digits_of text)) (fits_64 (number_of text)) (not (int_lt (number_of text) start)) (int_lt (number_of text) end)
    (ap all_ascii_digits digits ∙ plus_is_no_digit text plus)

pub no_plus : (x : ℕ) → false ≡ eqb x 43 → x ≢ 43
no_plus x e = λ is. grind (arith, nat_tests)

pub is_plus : (x : ℕ) → true ≡ eqb x 43 → x ≡ 43
is_plus x e = grind (arith, nat_tests)
