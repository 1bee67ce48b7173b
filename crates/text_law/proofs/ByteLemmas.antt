-- What the wire's reader takes as a text is UTF-8, and what is UTF-8 is a text of bytes.
use Rattle.std.proofs.Common.{◌≡◌, ℕ, zero, suc, ◌+◌, ◌/◌, ◌%◌, ◌<◌, ◌≤◌, List, [], ◌∷◌, ◌++◌, length, take, Bool, true, false, ltb, cond, ◌&&◌, refl, subst, ⊎_elim, arith}
use lib.Utf8.{encode, encodes, scalar, scalars, scalar_cases}
use lib.Seq.{take-length}
use Rattle.std.proofs.lemmas.Bool.{cond_both}
use Rattle.std.proofs.lemmas.Bool.Decides.{nat_tests}
use Rattle.std.proofs.lemmas.Str.{IsUtf8-from_is_utf8, IsUtf8-nil}
use Rattle.std.specs.Str.{IsUtf8, is_utf8}
use Rattle.std.specs.Str.Lossy.{utf8_valid_len, valid_len_up_to}
use Rattle.proto_wire.specs.FieldValues.{is_text}
use Rattle.text_law.proofs.Texts.{AreBytes}

bytes_append : (x y : List ℕ) → AreBytes x → AreBytes y → AreBytes (x ++ y)
bytes_append [] y h k = k
bytes_append (c ∷ cs) y h k = (h.0, bytes_append cs y h.1 k)

encode_bytes : (c : ℕ) → c < 1114112 → AreBytes (encode c)
unfolding encode
encode_bytes c lt =
    cond_both (ltb c 128) (c ∷ []) _ AreBytes (λ a. (grind (arith, nat_tests, a), tt))
    (λ _. cond_both (ltb c 2048) ((192 + c / 64) ∷ (128 + c % 64) ∷ []) _ AreBytes (λ a. (grind (arith, nat_tests, a), (omega arith, tt)))
    (λ _. cond_both (ltb c 65536) ((224 + c / 4096) ∷ (128 + c / 64 % 64) ∷ (128 + c % 64) ∷ []) ((240 + c / 262144) ∷ (128 + c / 4096 % 64) ∷ (128 + c / 64 % 64) ∷ (128 + c % 64) ∷ []) AreBytes
    (λ a. (grind (arith, nat_tests, a), (omega arith, (omega arith, tt)))) (λ _. (omega (arith, lt), (omega arith, (omega arith, (omega arith, tt)))))))

scalar_low : (c : ℕ) → scalar c ≡ true → c < 1114112
scalar_low c h = ⊎_elim (λ a. omega (arith, a)) (λ a. a.1) (scalar_cases c h)

first_scalar : (a b : Bool) → a && b ≡ true → (a ≡ true) × (b ≡ true)
first_scalar true b h = (refl, h)
first_scalar false b h = absurd (cc h)

encodes_bytes : (cs : List ℕ) → scalars cs ≡ true → AreBytes (encodes cs)
encodes_bytes [] h = tt
encodes_bytes (c ∷ cs) h =
    let both = first_scalar (scalar c) (scalars cs) h in
    bytes_append (encode c) (encodes cs) (encode_bytes c (scalar_low c both.0)) (encodes_bytes cs both.1)

pub utf8_bytes : (bs : List ℕ) → IsUtf8 bs → AreBytes bs
utf8_bytes bs h = subst AreBytes h.1.1 (encodes_bytes h.0 h.1.0)

valid_few : (bs : List ℕ) (n : ℕ) → valid_len_up_to bs n ≤ n
valid_few bs zero = omega arith
valid_few bs (suc n) =
    let less = valid_few bs n in
    cond_both (is_utf8 (take (suc n) bs)) (suc n) (valid_len_up_to bs n) (λ m. m ≤ suc n) (λ _. omega arith) (λ _. omega (arith, less))

valid_by : (b : Bool) (bs : List ℕ) (n : ℕ) → is_utf8 (take (suc n) bs) ≡ b → cond b (suc n) (valid_len_up_to bs n) ≡ suc n → is_utf8 (take (suc n) bs) ≡ true
valid_by true bs n is h = is
valid_by false bs n is h = absurd (let less = valid_few bs n in omega (arith, h, less))

valid_utf8 : (bs : List ℕ) → valid_len_up_to bs (length bs) ≡ length bs → IsUtf8 bs
valid_utf8 [] h = IsUtf8-nil
valid_utf8 (c ∷ cs) h =
    let is : is_utf8 (take (suc (length cs)) (c ∷ cs)) ≡ true = valid_by (is_utf8 (take (suc (length cs)) (c ∷ cs))) (c ∷ cs) (length cs) refl h in
    let all : take (length (c ∷ cs)) (c ∷ cs) ≡ c ∷ cs = take-length (c ∷ cs) in
    IsUtf8-from_is_utf8 (c ∷ cs) (subst (λ (l : List ℕ). is_utf8 l ≡ true) all is)

-- a text that the wire's reader takes
pub text_utf8 : (bs : List ℕ) → is_text bs ≡ true → IsUtf8 bs
unfolding utf8_valid_len
text_utf8 bs h = valid_utf8 bs (grind (arith, nat_tests, h))
