-- A text in lower case, by its bytes and by its characters.
use Rattle.std.proofs.Common.{◌≡◌, ◌≤◌, ◌<◌, ℕ, ◌+◌, ◌/◌, List, [], ◌∷◌, ◌++◌, Bool, true, false, cond, map, refl, sym, ap, ◌∙◌, arith, ltb}
use Rattle.std.proofs.lemmas.Bool.Decides.{nat_tests}
use Rattle.std.proofs.lemmas.List.{map-append}
use Rattle.std.proofs.lemmas.Str.{encodes-chars}
use Rattle.std.proofs.lemmas.Str.Ascii.{lowercase_ascii, lowercase_is, lowercase-lowercase, encode_ascii}
use Rattle.std.specs.Char.{to_ascii_lowercase}
use Rattle.std.specs.Prelude.{chars, encode_utf8_all}
use Rattle.std.specs.Str.{IsUtf8, str_to_ascii_lowercase}
use lib.Utf8.{encode, next}

high : (b : ℕ) → 128 ≤ b → to_ascii_lowercase b ≡ b
high b le = (lowercase_is b).2 (omega arith)

-- the bytes of a character beyond ASCII have no case
bytes_kept : (x y : Bool) (c : ℕ) → let bytes = cond x ((192 + c / 64) ∷ next c ∷ []) (cond y ((224 + c / 4096) ∷ next (c / 64) ∷ next c ∷ []) ((240 + c / 262144) ∷ next (c / 4096) ∷ next (c / 64) ∷ next c ∷ [])) in map to_ascii_lowercase bytes ≡ bytes
bytes_kept true y c = rw (high (192 + c / 64) (omega arith), high (next c) (omega arith)) refl
bytes_kept false true c = rw (high (224 + c / 4096) (omega arith), high (next (c / 64)) (omega arith), high (next c) (omega arith)) refl
bytes_kept false false c = rw (high (240 + c / 262144) (omega arith), high (next (c / 4096)) (omega arith), high (next (c / 64)) (omega arith), high (next c) (omega arith)) refl

encode-lowercase_at : (c : ℕ) (t : Bool) → ltb c 128 ≡ t → encode (to_ascii_lowercase c) ≡ map to_ascii_lowercase (encode c)
unfolding encode
encode-lowercase_at c true e =
    let small : c < 128 = grind (arith, nat_tests) in
    encode_ascii (to_ascii_lowercase c) (lowercase_ascii c small) ∙ sym (ap (map to_ascii_lowercase) (encode_ascii c small))
encode-lowercase_at c false e =
    let kept : to_ascii_lowercase c ≡ c = high c (grind (arith, nat_tests)) in
    ap encode kept ∙ rw e (sym (bytes_kept (ltb c 2048) (ltb c 65536) c))

encodes-lowercase : (cs : List ℕ) → encode_utf8_all (map to_ascii_lowercase cs) ≡ map to_ascii_lowercase (encode_utf8_all cs)
encodes-lowercase [] = refl
encodes-lowercase (c ∷ cs) =
    ap (λ (t : List ℕ). t ++ encode_utf8_all (map to_ascii_lowercase cs)) (encode-lowercase_at c (ltb c 128) refl)
    ∙ (ap (λ (t : List ℕ). map to_ascii_lowercase (encode c) ++ t) (encodes-lowercase cs)
    ∙ sym (map-append to_ascii_lowercase (encode c) (encode_utf8_all cs)))

-- the characters in lower case have the bytes in lower case
pub lower_characters : (text : List ℕ) → IsUtf8 text → encode_utf8_all (map to_ascii_lowercase (chars text)) ≡ str_to_ascii_lowercase text
lower_characters text utf8 = encodes-lowercase (chars text) ∙ ap (map to_ascii_lowercase) (encodes-chars text utf8)

-- lower case is kept
pub lower-lower : (text : List ℕ) → str_to_ascii_lowercase (str_to_ascii_lowercase text) ≡ str_to_ascii_lowercase text
lower-lower [] = refl
lower-lower (b ∷ bs) = rw (lowercase-lowercase b, lower-lower bs) refl
