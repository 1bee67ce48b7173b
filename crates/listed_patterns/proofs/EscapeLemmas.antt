-- What is written with escapes is read again, and has no line feed.
use Rattle.std.proofs.Common.{◌≡◌, ℕ, ◌+◌, ◌/◌, ◌%◌, ◌<◌, List, [], ◌∷◌, ◌++◌, Bool, true, false, ltb, eqb, ◌&&◌, All, refl, sym, ap, ◌∙◌, subst, ⊎_elim, arith}
use lib.Utf8.{encode, encodes, scalar, scalars, scalar_cases}
use Rattle.std.specs.Str.{IsUtf8}
use Rattle.std.proofs.lemmas.Bool.{cond-true, cond-false, cond_both}
use Rattle.std.proofs.lemmas.Bool.Decides.{nat_tests}
use Rattle.std.proofs.lemmas.List.Elements.{All-append, All-cons, All-nil, All-weaker}
use Rattle.percent_encoding.specs.Percent.{percent_decode, percent_encode_byte}
use Rattle.percent_encoding.proofs.PercentLemmas.{All-percent_encode_byte, IsEscapeByte, percent_decode-nil, percent_decode-percent_encode_byte, percent_decode_not_percent}
use Rattle.tree_text.specs.Escapes.{escaped, stays}

-- ---- a text is of bytes

abbrev AreBytes : List ℕ → Type 0
AreBytes [] = Unit {0}
AreBytes (c ∷ cs) = (c < 256) × AreBytes cs

bytes_append : (x y : List ℕ) → AreBytes x → AreBytes y → AreBytes (x ++ y)
bytes_append [] y h k = k
bytes_append (c ∷ cs) y h k = (h.0, bytes_append cs y h.1 k)

encode_bytes : (c : ℕ) → c < 1114112 → AreBytes (encode c)
unfolding encode
encode_bytes c lt =
    cond_both (ltb c 128) (c ∷ []) _ AreBytes (λ a. (grind (arith, nat_tests, a), tt))
    (λ _. cond_both (ltb c 2048) ((192 + c / 64) ∷ (128 + c % 64) ∷ []) _ AreBytes (λ a. (grind (arith, nat_tests, a), (omega arith, tt)))
    (λ _. cond_both (ltb c 65536) ((224 + c / 4096) ∷ (128 + c / 64 % 64) ∷ (128 + c % 64) ∷ []) ((240 + c / 262144) ∷ (128 + c / 4096 % 64) ∷ (128 + c / 64 % 64) ∷ (128 + c % 64) ∷ []) AreBytes
    (λ a. (grind (arith, nat_tests, a), (omega arith, (omega arith, tt)))) (λ _. (omega (arith, lt), (omega arith, (omega arith, (omega arith, tt)))))))

scalar_low : (c : ℕ) → scalar c ≡ true → c < 1114112
scalar_low c h = ⊎_elim (λ a. omega (arith, a)) (λ a. a.1) (scalar_cases c h)

both_hold : (a b : Bool) → a && b ≡ true → (a ≡ true) × (b ≡ true)
both_hold true b h = (refl, h)
both_hold false b h = absurd (cc h)

encodes_bytes : (cs : List ℕ) → scalars cs ≡ true → AreBytes (encodes cs)
encodes_bytes [] h = tt
encodes_bytes (c ∷ cs) h =
    let both = both_hold (scalar c) (scalars cs) h in
    bytes_append (encode c) (encodes cs) (encode_bytes c (scalar_low c both.0)) (encodes_bytes cs both.1)

utf8_bytes : (text : List ℕ) → IsUtf8 text → AreBytes text
utf8_bytes text h = subst AreBytes h.1.1 (encodes_bytes h.0 h.1.0)

-- ---- byte by byte

escaped_none : escaped [] ≡ []
unfolding escaped
escaped_none = refl

escaped_stays : (b : ℕ) (bs : List ℕ) → stays b ≡ true → escaped (b ∷ bs) ≡ b ∷ escaped bs
unfolding escaped
escaped_stays b bs is = ap (λ (x : List ℕ). x ++ escaped bs) (cond-true _ _ _ is)

escaped_other : (b : ℕ) (bs : List ℕ) → stays b ≡ false → escaped (b ∷ bs) ≡ percent_encode_byte b ++ escaped bs
unfolding escaped
escaped_other b bs is = ap (λ (x : List ℕ). x ++ escaped bs) (cond-false _ _ _ is)

-- ---- what is read

percent_leaves : (b : ℕ) → stays b ≡ true → b ≡ 37 → ⊥
percent_leaves b is percent =
    let none : true ≡ false = sym is ∙ ap stays percent in
    absurd (cc none)

byte_read : (t : Bool) (b : ℕ) (bs : List ℕ) → stays b ≡ t → b < 256 → percent_decode (escaped bs) ≡ bs → percent_decode (escaped (b ∷ bs)) ≡ b ∷ bs
byte_read true b bs is small rest =
    ap percent_decode (escaped_stays b bs is) ∙ (percent_decode_not_percent b (escaped bs) (percent_leaves b is) ∙ ap (λ (x : List ℕ). b ∷ x) rest)
byte_read false b bs is small rest =
    ap percent_decode (escaped_other b bs is) ∙ (percent_decode-percent_encode_byte b (escaped bs) small ∙ ap (λ (x : List ℕ). b ∷ x) rest)

bytes_read : (bs : List ℕ) → AreBytes bs → percent_decode (escaped bs) ≡ bs
bytes_read [] h = ap percent_decode escaped_none ∙ percent_decode-nil
bytes_read (b ∷ bs) h = byte_read (stays b) b bs refl h.0 (bytes_read bs h.1)

-- escapes are undone
pub escapes_undone : (text : List ℕ) → IsUtf8 text → percent_decode (escaped text) ≡ text
escapes_undone text h = bytes_read text (utf8_bytes text h)

-- ---- line feeds

-- a byte that isn't a line feed
abbrev pub IsOther : ℕ → Type 0
IsOther b = eqb b 10 ≡ false

stays_other : (b : ℕ) → stays b ≡ true → IsOther b
stays_other b is = grind (arith, nat_tests, is)

escape_other : (b : ℕ) → IsEscapeByte b → IsOther b
escape_other b h = grind (arith, nat_tests, h)

byte_no_feed : (t : Bool) (b : ℕ) (bs : List ℕ) → stays b ≡ t → All IsOther (escaped bs) → All IsOther (escaped (b ∷ bs))
byte_no_feed true b bs is rest = subst (All IsOther) (sym (escaped_stays b bs is)) (All-cons IsOther b (escaped bs) (stays_other b is) rest)
byte_no_feed false b bs is rest =
    let escape = All-weaker IsEscapeByte IsOther escape_other (percent_encode_byte b) (All-percent_encode_byte b) in
    subst (All IsOther) (sym (escaped_other b bs is)) (All-append IsOther (percent_encode_byte b) (escaped bs) escape rest)

pub escaped_no_feed : (text : List ℕ) → All IsOther (escaped text)
escaped_no_feed [] = subst (All IsOther) (sym escaped_none) (All-nil IsOther)
escaped_no_feed (b ∷ bs) = byte_no_feed (stays b) b bs refl (escaped_no_feed bs)
