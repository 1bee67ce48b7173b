-- Which texts are numbers.
use Rattle.std.proofs.Common.{◌≡◌, ◌≢◌, ◌≤◌, ◌<◌, ℕ, zero, suc, ◌^◌, List, length, get_or, Bool, true, false, ◌&&◌, ◌||◌, ◌⊎◌, inl, inr, eqb, cond, Option, Some, None, Result, Ok, Err, MatchOption, refl, sym, ap, ◌∙◌, arith, lit<}
use Rattle.std.proofs.lemmas.Bool.Decides.{nat_tests}
use Rattle.std.proofs.lemmas.Fmt.{decimal_is_IsNumeral, first_decimal, decimal_digit, decimal-digits_value}
use Rattle.std.proofs.lemmas.Slice.Eq.{bytes_eq-Decides}
use Rattle.std.proofs.lemmas.Str.Parse.{IsNumeralModel, numerals_by_value, tells_digits, parse_plain, digit_at}
use Rattle.std.specs.Fmt.{decimal}
use Rattle.std.specs.Prelude.{nat_lt, bytes_eq}
use Rattle.std.specs.Result.{result_ok}
use Rattle.std.specs.Str.Parse.{digits_value, AllDigits, ParsesUnsigned}
use Rattle.xc_base.specs.Numbers.{number_of, NumbersAreDecimal}

both_pass : (a b : Bool) (m n : ℕ) → cond (a && b) (Some m) None ≡ Some n → (a ≡ true) × (b ≡ true) × (m ≡ n)
both_pass true true m n e = (refl, refl, cc)
both_pass true false m n e = absurd (cc)
both_pass false b m n e = absurd (cc)

-- the decimal text of a number below 2 ^ 64 has that number
pub number_of-decimal : (text : List ℕ) (n : ℕ) → text ≡ decimal n → n < 2 ^ 64 → number_of text ≡ Some n
unfolding number_of
number_of-decimal text n e lt =
    let value : digits_value 10 text ≡ n = ap (digits_value 10) e ∙ (decimal_is_IsNumeral n lt).1 in
    let small : nat_lt (digits_value 10 text) (2 ^ 64) ≡ true = grind (arith, nat_tests) in
    let same : bytes_eq (decimal (digits_value 10 text)) text ≡ true = (bytes_eq-Decides _ text).1 (ap decimal value ∙ sym e) in
    rw (small, same) (ap Some value)

-- a text that has a number is its decimal text
pub decimal-number_of : (text : List ℕ) (n : ℕ) → number_of text ≡ Some n → (text ≡ decimal n) × (n < 2 ^ 64)
unfolding number_of
decimal-number_of text n e =
    let passed = both_pass (nat_lt (digits_value 10 text) (2 ^ 64)) (bytes_eq (decimal (digits_value 10 text)) text) (digits_value 10 text) n e in
    (sym ((bytes_eq-Decides (decimal (digits_value 10 text)) text).0 passed.1) ∙ ap decimal passed.2, grind (arith, nat_tests))

pub numbers_are_decimal : NumbersAreDecimal
numbers_are_decimal text n = (decimal-number_of text n, λ h. number_of-decimal text n h.0 h.1)

none_of : (o : Option ℕ) → ((n : ℕ) → o ≡ Some n → ⊥) → o ≡ None
none_of None h = refl
none_of (Some n) h = absurd (h n refl)

-- what is no decimal text has no number
pub number_of-none : (text : List ℕ) → ((n : ℕ) → n < 2 ^ 64 → text ≢ decimal n) → number_of text ≡ None
number_of-none text h = none_of (number_of text) (λ n e. let is = decimal-number_of text n e in h n is.1 is.0)

-- each text has its number, or is no decimal text
pub number_of_matches : (text : List ℕ) (o : Option ℕ) → o ≡ number_of text → MatchOption o ((n : ℕ) → n < 2 ^ 64 → text ≢ decimal n) (λ n. text ≡ decimal n)
number_of_matches text None e = λ n lt is. let has = number_of-decimal text n is lt in cc
number_of_matches text (Some n) e = (decimal-number_of text n (sym e)).0

-- a decimal text begins with a digit
first_digit : (n : ℕ) → n < 2 ^ 64 → 48 ≤ get_or (decimal n) 0 0
first_digit n lt = let is = decimal_is_IsNumeral n lt in (digit_at (decimal n) 0 is.0.1 is.0.0).0

-- a sign gives no number
pub number_of_signed : (text : List ℕ) → get_or text 0 0 ≡ 43 → number_of text ≡ None
number_of_signed text e = number_of-none text (λ n lt is. let first = first_digit n lt in let same = ap (λ (t : List ℕ). get_or t 0 0) is in omega arith)

one_digit : (n : ℕ) → n < 2 ^ 64 → get_or (decimal n) 0 0 ≡ 48 → length (decimal n) ≡ 1
one_digit zero lt e = ap length (decimal_digit 0 (lit< tt))
one_digit (suc n) lt e = absurd (let first = first_decimal (suc n) (omega arith) lt in omega arith)

-- a leading zero gives no number
pub number_of_padded : (text : List ℕ) → 1 < length text → get_or text 0 0 ≡ 48 → number_of text ≡ None
number_of_padded text long e = number_of-none text (λ n lt is.
    let one = one_digit n lt (ap (λ (t : List ℕ). get_or t 0 0) (sym is) ∙ e) in
    let same = ap length is in omega arith)

own : IsNumeralModel (AllDigits 10) (digits_value 10)
own = numerals_by_value (AllDigits 10) tells_digits

-- it begins with a sign, or with a zero that isn't the whole text
abbrev pub is_signed_or_padded : List ℕ → Bool
is_signed_or_padded text = eqb (get_or text 0 0) 43 || (nat_lt 1 (length text) && eqb (get_or text 0 0) 48)

either : (a b c : Bool) → (a || (b && c)) ≡ true → (a ≡ true) ⊎ ((b ≡ true) × (c ≡ true))
either true b c e = inl refl
either false true true e = inr (refl, refl)
either false true false e = absurd (cc)
either false false c e = absurd (cc)

-- such a text has no number
pub number_of_excluded : (text : List ℕ) → is_signed_or_padded text ≡ true → None ≡ number_of text
number_of_excluded text e =
    elim (either (eqb (get_or text 0 0) 43) (nat_lt 1 (length text)) (eqb (get_or text 0 0) 48) e) [
      | inl signed ↦ sym (number_of_signed text (grind (arith, nat_tests)))
      | inr padded ↦ sym (number_of_padded text (grind (arith, nat_tests)) (grind (arith, nat_tests)))
    ]

-- that of any other is what it parses to
pub number_of_parsed : {E : Type 0} (text : List ℕ) (r : Result ℕ E) → is_signed_or_padded text ≡ false → ParsesUnsigned 64 10 text r → result_ok r ≡ number_of text
number_of_parsed {E} text (Ok v) e h =
    let is = parse_plain own {E = E} 64 text (Ok v) h (grind (arith, nat_tests)) in
    let spelled = decimal-digits_value own text is.0.0 is.0.1 (λ zero. let some = is.0.1 in grind (arith, nat_tests)) is.0.2 in
    ap Some is.1 ∙ sym (number_of-decimal text (digits_value 10 text) (sym spelled) is.0.2)
number_of_parsed {E} text (Err f) e h =
    let is = parse_plain own {E = E} 64 text (Err f) h (grind (arith, nat_tests)) in
    sym (number_of-none text (λ n lt spelled.
    let numeral = decimal_is_IsNumeral n lt in
    let digits : AllDigits 10 text = rw spelled numeral.0.1 in
    let some : 0 < length text = rw spelled numeral.0.0 in
    let value : digits_value 10 text < 2 ^ 64 = rw (spelled, numeral.1) lt in
    is (digits, some, value)))
