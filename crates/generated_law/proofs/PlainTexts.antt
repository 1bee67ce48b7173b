-- Texts of printed bytes, cut into lines and words.
use Rattle.std.proofs.Common.{◌≡◌, ◌<◌, ℕ, zero, suc, ◌/◌, ◌%◌, ◌==◌, List, [], ◌∷◌, ◌++◌, Bool, true, false, ◌&&◌, cond, length, refl, ap, ◌∙◌, arith}
use Rattle.std.specs.Prelude.{nat_le, nat_lt, slice_index}
use Rattle.std.specs.Fmt.{decimal, digit_glyph, digits, digits_onto}
use Rattle.std.specs.List.{onto_first, slice_split}
use Rattle.std.specs.Str.{IsAscii, is_utf8}
use Rattle.std.proofs.lemmas.Bool.{cond_both}
use Rattle.std.proofs.lemmas.Bool.Decides.{nat_tests}
use Rattle.std.proofs.lemmas.Str.{IsUtf8-from_ascii, is_utf8-from_IsUtf8}
use Rattle.hex.specs.Hex.{encode_lower, encode_with, lower_digits}
use Rattle.session_lines.specs.Lines.{lines_of, words_of}

-- ---- bytes

-- a printed byte of ASCII, but for the space; and with it
abbrev pub is_plain : ℕ → Bool
is_plain b = nat_le 33 b && nat_lt b 128

abbrev pub is_clear : ℕ → Bool
is_clear b = nat_le 32 b && nat_lt b 128

abbrev pub is_plain_word : List ℕ → Bool
is_plain_word [] = true
is_plain_word (b ∷ bs) = is_plain b && is_plain_word bs

abbrev pub is_clear_text : List ℕ → Bool
is_clear_text [] = true
is_clear_text (b ∷ bs) = is_clear b && is_clear_text bs

abbrev pub are_bytes : List ℕ → Bool
are_bytes [] = true
are_bytes (b ∷ bs) = nat_lt b 256 && are_bytes bs

both : (a b : Bool) → (a && b) ≡ true → (a ≡ true) × (b ≡ true)
both true b is = (refl, is)
both false b is = absurd (cc is)

joined : (a b : Bool) → a ≡ true → b ≡ true → (a && b) ≡ true
joined true b one two = two
joined false b one two = absurd (cc one)

pub byte_at : (bytes : List ℕ) → are_bytes bytes ≡ true → (i : ℕ) → slice_index bytes i < 256
byte_at [] are i = omega arith
byte_at (b ∷ bs) are zero = let own = (both (nat_lt b 256) (are_bytes bs) are).0 in grind (arith, nat_tests, own)
byte_at (b ∷ bs) are (suc i) = byte_at bs (both (nat_lt b 256) (are_bytes bs) are).1 i

clear_byte : (b : ℕ) → is_plain b ≡ true → is_clear b ≡ true
clear_byte b is = grind (arith, nat_tests, is)

pub clear_word : (word : List ℕ) → is_plain_word word ≡ true → is_clear_text word ≡ true
clear_word [] is = refl
clear_word (b ∷ bs) is =
    let (own, rest) = both (is_plain b) (is_plain_word bs) is in
    joined (is_clear b) (is_clear_text bs) (clear_byte b own) (clear_word bs rest)

pub clear_joined : (x y : List ℕ) → is_clear_text x ≡ true → is_clear_text y ≡ true → is_clear_text (x ++ y) ≡ true
clear_joined [] y one two = two
clear_joined (b ∷ bs) y one two =
    let (own, rest) = both (is_clear b) (is_clear_text bs) one in
    joined (is_clear b) (is_clear_text (bs ++ y)) own (clear_joined bs y rest two)

clear_ascii : (text : List ℕ) → is_clear_text text ≡ true → IsAscii text
clear_ascii [] is i = omega arith
clear_ascii (b ∷ bs) is zero = let own = (both (is_clear b) (is_clear_text bs) is).0 in grind (arith, nat_tests, own)
clear_ascii (b ∷ bs) is (suc i) = clear_ascii bs (both (is_clear b) (is_clear_text bs) is).1 i

pub clear_utf8 : (text : List ℕ) → is_clear_text text ≡ true → is_utf8 text ≡ true
clear_utf8 text is = is_utf8-from_IsUtf8 text (IsUtf8-from_ascii text (clear_ascii text is))

-- ---- numbers and data

glyph_plain : (n : ℕ) → is_plain (digit_glyph false (n % 10)) ≡ true
glyph_plain n = grind (arith, nat_tests)

digits_plain : (k n : ℕ) (after : List ℕ) → is_plain_word after ≡ true → is_plain_word (digits_onto k 10 false n after) ≡ true
digits_plain zero n after is = is
digits_plain (suc k) n after is =
    let one : is_plain_word (digit_glyph false (n % 10) ∷ after) ≡ true = joined (is_plain (digit_glyph false (n % 10))) (is_plain_word after) (glyph_plain n) is in
    cond_both (n / 10 == 0) (digit_glyph false (n % 10) ∷ after) (digits_onto k 10 false (n / 10) (digit_glyph false (n % 10) ∷ after)) (λ x. is_plain_word x ≡ true)
    (λ _. one) (λ _. digits_plain k (n / 10) (digit_glyph false (n % 10) ∷ after) one)

pub decimal_plain : (n : ℕ) → is_plain_word (decimal n) ≡ true
unfolding digits
decimal_plain n = digits_plain 64 n [] refl

digit_by : (digits : List ℕ) (d : ℕ) → is_plain_word digits ≡ true → d < length digits → is_plain (slice_index digits d) ≡ true
digit_by [] d is lt = absurd (omega (arith, lt))
digit_by (b ∷ bs) zero is lt = (both (is_plain b) (is_plain_word bs) is).0
digit_by (b ∷ bs) (suc d) is lt = digit_by bs d (both (is_plain b) (is_plain_word bs) is).1 (omega (arith, lt))

hex_digit : (d : ℕ) → d < 16 → is_plain (slice_index lower_digits d) ≡ true
hex_digit d lt = digit_by lower_digits d refl lt

pub hex_plain : (bytes : List ℕ) → are_bytes bytes ≡ true → is_plain_word (encode_lower bytes) ≡ true
unfolding encode_with
hex_plain [] are = refl
hex_plain (b ∷ bs) are =
    let (own, rest) = both (nat_lt b 256) (are_bytes bs) are in
    let small : b < 256 = grind (arith, nat_tests, own) in
    let high : b / 16 < 16 = omega (arith, small) in
    let low : b % 16 < 16 = omega arith in
    joined (is_plain (slice_index lower_digits (b / 16))) _ (hex_digit (b / 16) high)
    (joined (is_plain (slice_index lower_digits (b % 16))) (is_plain_word (encode_lower bs)) (hex_digit (b % 16) low) (hex_plain bs rest))

-- ---- words

-- words with one space between two
abbrev pub spaced : List ℕ → List (List ℕ) → List ℕ
spaced word [] = word
spaced word (next ∷ more) = word ++ 32 ∷ spaced next more

abbrev pub ArePlain : List (List ℕ) → Type 0
ArePlain [] = Unit {0}
ArePlain (word ∷ words) = (is_plain_word word ≡ true) × ArePlain words

not_space : (b : ℕ) → is_plain b ≡ true → (b == 32) ≡ false
not_space b is = grind (arith, nat_tests, is)

part_by : (is : Bool) (b : ℕ) (bs word : List ℕ) (words : List (List ℕ)) → is ≡ false → slice_split (λ b. b == 32) bs ≡ word ∷ words
    → cond is ([] ∷ slice_split (λ b. b == 32) bs) (onto_first b (slice_split (λ b. b == 32) bs)) ≡ (b ∷ word) ∷ words
part_by true b bs word words is parts = absurd (cc is)
part_by false b bs word words is parts = ap (onto_first b) parts

word_then : (word rest : List ℕ) → is_plain_word word ≡ true → words_of (word ++ 32 ∷ rest) ≡ word ∷ words_of rest
word_then [] rest is = refl
word_then (b ∷ bs) rest is =
    let (own, more) = both (is_plain b) (is_plain_word bs) is in
    part_by (b == 32) b (bs ++ 32 ∷ rest) bs (words_of rest) (not_space b own) (word_then bs rest more)

word_last : (word : List ℕ) → is_plain_word word ≡ true → words_of word ≡ word ∷ []
word_last [] is = refl
word_last (b ∷ bs) is =
    let (own, more) = both (is_plain b) (is_plain_word bs) is in
    part_by (b == 32) b bs bs [] (not_space b own) (word_last bs more)

pub words_spaced : (word : List ℕ) (words : List (List ℕ)) → ArePlain (word ∷ words) → words_of (spaced word words) ≡ word ∷ words
words_spaced word [] are = word_last word are.0
words_spaced word (next ∷ more) are = word_then word (spaced next more) are.0 ∙ ap (λ ws. word ∷ ws) (words_spaced next more are.1)

pub clear_spaced : (word : List ℕ) (words : List (List ℕ)) → ArePlain (word ∷ words) → is_clear_text (spaced word words) ≡ true
clear_spaced word [] are = clear_word word are.0
clear_spaced word (next ∷ more) are = clear_joined word (32 ∷ spaced next more) (clear_word word are.0) (clear_spaced next more are.1)

-- ---- lines

not_feed : (b : ℕ) → is_clear b ≡ true → (b == 10) ≡ false
not_feed b is = grind (arith, nat_tests, is)

line_by : (is : Bool) (b : ℕ) (bs line : List ℕ) (lines : List (List ℕ)) → is ≡ false → lines_of bs ≡ line ∷ lines
    → (cond is ([] ∷ lines_of bs) (onto_first b (lines_of bs))) ≡ (b ∷ line) ∷ lines
line_by true b bs line lines is parts = absurd (cc is)
line_by false b bs line lines is parts = ap (onto_first b) parts

pub line_then : (line rest : List ℕ) → is_clear_text line ≡ true → lines_of (line ++ 10 ∷ rest) ≡ line ∷ lines_of rest
unfolding lines_of
line_then [] rest is = refl
line_then (b ∷ bs) rest is =
    let (own, more) = both (is_clear b) (is_clear_text bs) is in
    line_by (b == 10) b (bs ++ 10 ∷ rest) bs (lines_of rest) (not_feed b own) (line_then bs rest more)
