-- Texts with escapes, computed: a name that comes from a server can't end a line of the report or begin another one.
use Rattle.std.specs.Prelude.{◌≡◌, [], ◌∷◌, codes, refl}
use Rattle.tree_text.specs.Escapes.{escaped}
use Rattle.percent_encoding.specs.Percent.{percent_encode_byte}

-- a line feed, 0x7F, and the bounds of what stays: seen where control characters, or 0x7F, or a space stays
controls : escaped (97 ∷ 10 ∷ 13 ∷ 0 ∷ 31 ∷ 32 ∷ 33 ∷ 126 ∷ 127 ∷ 128 ∷ 255 ∷ []) ≡ codes "a%0A%0D%00%1F%20!~%7F%80%FF"
unfolding escaped percent_encode_byte
controls = refl

-- the four marks of a report that are escaped within 0x21 to 0x7E, and their neighbours, which stay
marks : escaped (codes "$%&+,-<=>{|}") ≡ codes "$%25&+%2C-<%3D>{%7C}"
unfolding escaped percent_encode_byte
marks = refl

-- the two bytes of a letter outside ASCII, and upper-case digits
letter : escaped (195 ∷ 169 ∷ 47 ∷ 58 ∷ []) ≡ codes "%C3%A9/:"
unfolding escaped percent_encode_byte
letter = refl
