-- Texts as a report has them (this project's own format).
use Rattle.std.specs.Prelude.{ℕ, ◌==◌, nat_le, Bool, not, ◌&&◌, if◌then◌else◌, List, [], ◌∷◌, flat_map}
use Rattle.percent_encoding.specs.Percent.{percent_encode_byte}

-- a byte that stays as it is: of 0x21 to 0x7E each but `%`, `,`, `=` and `|`
abbrev pub stays : ℕ → Bool
stays b = nat_le 33 b && nat_le b 126 && not (b == 37) && not (b == 44) && not (b == 61) && not (b == 124)

-- each other byte is `%` and its two upper-case hexadecimal digits
unfoldable pub escaped : List ℕ → List ℕ
escaped text = flat_map (λ b. if stays b then b ∷ [] else percent_encode_byte b) text
