-- Texts cut at their first byte of a kind, escapes, and decimals.
use Rattle.std.proofs.Common.{◌≡◌, ℕ, zero, suc, ◌/◌, ◌%◌, ◌<◌, List, [], ◌∷◌, ◌++◌, Bool, true, false, eqb, All, length, get_or, refl, sym, ap, ◌∙◌, arith}
use Rattle.std.specs.Str.{IsUtf8}
use Rattle.std.specs.Fmt.{digit_glyph, digits, digits_onto, decimal}
use Rattle.std.proofs.lemmas.Bool.{cond-true, cond-false, cond_both}
use Rattle.std.proofs.lemmas.Bool.Decides.{nat_tests}
use Rattle.std.proofs.lemmas.List.Elements.{All-head, All-tail, All-weaker}
use Rattle.percent_encoding.specs.Percent.{percent_decode, percent_encode_byte}
use Rattle.percent_encoding.proofs.PercentLemmas.{All-percent_encode_byte, IsEscapeByte, percent_decode-nil, percent_decode-percent_encode_byte, percent_decode_not_percent}
use Rattle.tree_text.specs.Escapes.{escaped, stays}
use Rattle.text_law.proofs.Texts.{lacks, AreBytes, begins_pattern}
use Rattle.text_law.proofs.ByteLemmas.{utf8_bytes}

-- ---- cuts

pub lacks-append : (b : ℕ) (x y : List ℕ) → lacks b x ≡ true → lacks b y ≡ true → lacks b (x ++ y) ≡ true
lacks-append b [] y h k = k
lacks-append b (c ∷ cs) y h k =
    let rest : lacks b (cs ++ y) ≡ true = lacks-append b cs y (grind (arith, h)) k in
    grind (arith, h, rest)

-- two texts that lack a byte, each before it and a rest
pub cut_at : (b : ℕ) (x y u v : List ℕ) → lacks b x ≡ true → lacks b y ≡ true → x ++ b ∷ u ≡ y ++ b ∷ v → (x ≡ y) × (u ≡ v)
cut_at b [] [] u v h k e = (refl, cc e)
cut_at b [] (d ∷ ds) u v h k e =
    let same : b ≡ d = cc e in
    absurd (grind (arith, nat_tests, same, k))
cut_at b (c ∷ cs) [] u v h k e =
    let same : c ≡ b = cc e in
    absurd (grind (arith, nat_tests, same, h))
cut_at b (c ∷ cs) (d ∷ ds) u v h k e =
    let rest : cs ++ b ∷ u ≡ ds ++ b ∷ v = cc e in
    let same : c ≡ d = cc e in
    let more = cut_at b cs ds u v (grind (arith, h)) (grind (arith, k)) rest in
    (cc (same, more.0), more.1)

-- ---- escapes

abbrev Other : ℕ → ℕ → Type 0
Other b c = eqb c b ≡ false

lacks_from_all : (b : ℕ) (x : List ℕ) → All (Other b) x → lacks b x ≡ true
lacks_from_all b [] h = refl
lacks_from_all b (c ∷ cs) h =
    let rest : lacks b cs ≡ true = lacks_from_all b cs (All-tail (Other b) c cs h) in
    let first : eqb c b ≡ false = All-head (Other b) c cs h in
    grind (arith, rest, first)

escaped_none : escaped [] ≡ []
unfolding escaped
escaped_none = refl

-- a byte that stays, and one that is escaped
escaped_stays : (b : ℕ) (bs : List ℕ) → stays b ≡ true → escaped (b ∷ bs) ≡ b ∷ escaped bs
unfolding escaped
escaped_stays b bs is = ap (λ (x : List ℕ). x ++ escaped bs) (cond-true _ _ _ is)

escaped_other : (b : ℕ) (bs : List ℕ) → stays b ≡ false → escaped (b ∷ bs) ≡ percent_encode_byte b ++ escaped bs
unfolding escaped
escaped_other b bs is = ap (λ (x : List ℕ). x ++ escaped bs) (cond-false _ _ _ is)

percent_leaves : (b : ℕ) → stays b ≡ true → b ≡ 37 → ⊥
percent_leaves b is percent =
    let none : true ≡ false = sym is ∙ ap stays percent in
    absurd (cc none)

decode_byte : (t : Bool) (b : ℕ) (bs : List ℕ) → stays b ≡ t → b < 256 → percent_decode (escaped bs) ≡ bs → percent_decode (escaped (b ∷ bs)) ≡ b ∷ bs
decode_byte true b bs is small rest =
    ap percent_decode (escaped_stays b bs is) ∙ (percent_decode_not_percent b (escaped bs) (percent_leaves b is) ∙ ap (λ (x : List ℕ). b ∷ x) rest)
decode_byte false b bs is small rest =
    ap percent_decode (escaped_other b bs is) ∙ (percent_decode-percent_encode_byte b (escaped bs) small ∙ ap (λ (x : List ℕ). b ∷ x) rest)

-- escapes are undone
decode_escaped : (bs : List ℕ) → AreBytes bs → percent_decode (escaped bs) ≡ bs
decode_escaped [] h = ap percent_decode escaped_none ∙ percent_decode-nil
decode_escaped (b ∷ bs) h = decode_byte (stays b) b bs refl h.0 (decode_escaped bs h.1)

pub escaped_injective : (x y : List ℕ) → IsUtf8 x → IsUtf8 y → escaped x ≡ escaped y → x ≡ y
escaped_injective x y h k e = sym (decode_escaped x (utf8_bytes x h)) ∙ (ap percent_decode e ∙ decode_escaped y (utf8_bytes y k))

kept_other : (t : Bool) (b c : ℕ) → eqb c b ≡ t → stays c ≡ true → stays b ≡ false → Other b c
kept_other true b c same kept gone =
    let here : c ≡ b = grind (arith, nat_tests, same) in
    let none : true ≡ false = sym kept ∙ (ap stays here ∙ gone) in
    absurd (cc none)
kept_other false b c same kept gone = same

escape_other : (b c : ℕ) → b < 37 → IsEscapeByte c → Other b c
escape_other b c lt h = grind (arith, nat_tests, lt, h)

escape_lacks : (b c : ℕ) → b < 37 → lacks b (percent_encode_byte c) ≡ true
escape_lacks b c lt = lacks_from_all b (percent_encode_byte c) (All-weaker IsEscapeByte (Other b) (λ d h. escape_other b d lt h) (percent_encode_byte c) (All-percent_encode_byte c))

byte_lacks : (t : Bool) (b c : ℕ) (cs : List ℕ) → stays c ≡ t → stays b ≡ false → b < 37 → lacks b (escaped cs) ≡ true → lacks b (escaped (c ∷ cs)) ≡ true
byte_lacks true b c cs is gone lt rest =
    let other : eqb c b ≡ false = kept_other (eqb c b) b c refl is gone in
    let one : lacks b (c ∷ escaped cs) ≡ true = grind (arith, rest, other) in
    ap (lacks b) (escaped_stays c cs is) ∙ one
byte_lacks false b c cs is gone lt rest =
    ap (lacks b) (escaped_other c cs is) ∙ lacks-append b (percent_encode_byte c) (escaped cs) (escape_lacks b c lt) rest

-- a byte below `%` that is escaped stands in no escaped text
escaped_lacks : (b : ℕ) (x : List ℕ) → b < 37 → stays b ≡ false → lacks b (escaped x) ≡ true
escaped_lacks b [] lt gone = ap (lacks b) escaped_none
escaped_lacks b (c ∷ cs) lt gone = byte_lacks (stays c) b c cs refl gone lt (escaped_lacks b cs lt gone)

pub escaped_no_feed : (x : List ℕ) → lacks 10 (escaped x) ≡ true
escaped_no_feed x = escaped_lacks 10 x (omega arith) refl

-- ---- decimals

glyph_other : (b n : ℕ) → b < 48 → eqb (digit_glyph false (n % 10)) b ≡ false
glyph_other b n lt = grind (arith, nat_tests, lt)

digits_lack : (b k n : ℕ) (after : List ℕ) → ((m : ℕ) → eqb (digit_glyph false (m % 10)) b ≡ false) → lacks b after ≡ true → lacks b (digits_onto k 10 false n after) ≡ true
digits_lack b zero n after other h = h
digits_lack b (suc k) n after other h =
    let one : lacks b (digit_glyph false (n % 10) ∷ after) ≡ true = grind (arith, h, other n) in
    cond_both (eqb (n / 10) 0) (digit_glyph false (n % 10) ∷ after) (digits_onto k 10 false (n / 10) (digit_glyph false (n % 10) ∷ after)) (λ x. lacks b x ≡ true)
    (λ _. one) (λ _. digits_lack b k (n / 10) (digit_glyph false (n % 10) ∷ after) other one)

pub decimal_lacks : (b n : ℕ) → b < 48 → lacks b (decimal n) ≡ true
unfolding digits
decimal_lacks b n lt = digits_lack b 64 n [] (λ m. glyph_other b m lt) refl

letter_other : (b n : ℕ) → 57 < b → eqb (digit_glyph false (n % 10)) b ≡ false
letter_other b n lt = grind (arith, nat_tests, lt)

pub decimal_lacks_letters : (b n : ℕ) → 57 < b → lacks b (decimal n) ≡ true
unfolding digits
decimal_lacks_letters b n lt = digits_lack b 64 n [] (λ m. letter_other b m lt) refl

grown_nonempty : (k n c : ℕ) (after : List ℕ) → 0 < length (digits_onto k 10 false n (c ∷ after))
grown_nonempty zero n c after = omega arith
grown_nonempty (suc k) n c after =
    cond_both (eqb (n / 10) 0) (digit_glyph false (n % 10) ∷ (c ∷ after)) (digits_onto k 10 false (n / 10) (digit_glyph false (n % 10) ∷ (c ∷ after))) (λ x. 0 < length x)
    (λ _. omega arith) (λ _. grown_nonempty k (n / 10) (digit_glyph false (n % 10)) (c ∷ after))

pub decimal_nonempty : (n : ℕ) → 0 < length (decimal n)
unfolding digits
decimal_nonempty n =
    cond_both (eqb (n / 10) 0) (digit_glyph false (n % 10) ∷ []) (digits_onto 63 10 false (n / 10) (digit_glyph false (n % 10) ∷ [])) (λ x. 0 < length x)
    (λ _. omega arith) (λ _. grown_nonempty 63 (n / 10) (digit_glyph false (n % 10)) [])

first_other : (b : ℕ) (x u : List ℕ) → 0 < length x → lacks b x ≡ true → eqb (get_or (x ++ u) 0 0) b ≡ false
first_other b [] u some h = absurd (omega arith)
first_other b (c ∷ cs) u some h = grind (arith, h)

-- a text that begins with a number isn't a pattern's line
pub number_first : (n : ℕ) (u : List ℕ) → begins_pattern (decimal n ++ u) ≡ false
number_first n u =
    let first : eqb (get_or (decimal n ++ u) 0 0) 32 ≡ false = first_other 32 (decimal n) u (decimal_nonempty n) (decimal_lacks 32 n (omega arith)) in
    grind (arith, first)

-- a number and a rest don't begin with a letter
pub letter_first : (b n : ℕ) (u : List ℕ) → 57 < b → eqb (get_or (decimal n ++ u) 0 0) b ≡ false
letter_first b n u lt = first_other b (decimal n) u (decimal_nonempty n) (decimal_lacks_letters b n lt)
