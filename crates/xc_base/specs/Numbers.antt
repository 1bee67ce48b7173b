-- Numbers as the texts of this project write them: decimal digits without a sign, and without a leading zero unless the number is 0.
use Rattle.std.specs.Prelude.{◌≡◌, ℕ, ◌^◌, ◌<◌, ◌↔◌, List, Option, Some, None, ◌&&◌, nat_lt, bytes_eq, if◌then◌else◌}
use Rattle.std.specs.Fmt.{decimal}
use Rattle.std.specs.Str.Parse.{digits_value}

-- the number below 2 ^ 64 whose decimal text this is, if there is one
unfoldable pub number_of : List ℕ → Option ℕ
number_of text = let n = digits_value 10 text in if nat_lt n (2 ^ 64) && bytes_eq (decimal n) text then Some n else None

-- `number_of` finds a number exactly where the text is the decimal text of one below 2 ^ 64
abbrev pub NumbersAreDecimal : Type 0
NumbersAreDecimal = (text : List ℕ) (n : ℕ) → (number_of text ≡ Some n) ↔ ((text ≡ decimal n) × (n < 2 ^ 64))
