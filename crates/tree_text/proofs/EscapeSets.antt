-- The set of what is escaped holds just what doesn't stay.
use Rattle.std.proofs.Common.{◌≡◌, ◌<◌, ◌≤◌, ℕ, zero, suc, List, [], ◌∷◌, ◌++◌, Bool, true, false, not, ◌&&◌, ◌||◌, cond, eqb, ltb, refl, sym, ap, ◌∙◌, arith}
use Rattle.std.proofs.lemmas.Bool.Decides.{nat_tests}
use Rattle.std.proofs.lemmas.List.Concat.{flat_map-cons}
use Rattle.std.specs.Char.{is_ascii}
use Rattle.std.specs.List.{flat_map, list_all}
use Rattle.percent_encoding.specs.AsciiSet.{contains, should_percent_encode}
use Rattle.percent_encoding.specs.Percent.{percent_encode, percent_encode_byte, encode_byte}
use Rattle.tree_text.specs.Escapes.{stays, escaped}
use Rattle.tree_text.specs.declared.escapes.TheConstants.{ESCAPED}

-- ---- a test of all numbers below one

abbrev all_below : (ℕ → Bool) → ℕ → Bool
all_below p zero = true
all_below p (suc n) = p n && all_below p n

both : (a b : Bool) → (a && b) ≡ true → (a ≡ true) × (b ≡ true)
both true b e = (refl, e)
both false b e = absurd (cc)

same_place : (t : Bool) (p : ℕ → Bool) (n k : ℕ) → eqb k n ≡ t → p n ≡ true → (k < n → p k ≡ true) → k < suc n → p k ≡ true
same_place true p n k is here more lt = let e : k ≡ n = grind (arith, nat_tests) in ap p e ∙ here
same_place false p n k is here more lt = more (grind (arith, nat_tests))

at_below : (p : ℕ → Bool) (n k : ℕ) → all_below p n ≡ true → k < n → p k ≡ true
at_below p zero k all lt = absurd (omega arith)
at_below p (suc n) k all lt = let h = both (p n) (all_below p n) all in same_place (eqb k n) p n k refl h.0 (at_below p n k h.1) lt

-- ---- the set holds what the definition escapes

abbrev agree : Bool → Bool → Bool
agree true b = b
agree false b = not b

agreed : (a b : Bool) → agree a b ≡ true → a ≡ b
agreed true b e = sym e
agreed false true e = absurd (cc)
agreed false false e = refl

abbrev agrees : ℕ → Bool
agrees b = agree (not (is_ascii b) || contains ESCAPED b) (not (stays b))

ascii_agrees : all_below agrees 128 ≡ true
ascii_agrees = refl

-- a byte outside ASCII is escaped
outside : (b : ℕ) → 128 ≤ b → should_percent_encode ESCAPED b ≡ not (stays b)
unfolding should_percent_encode
outside b far = grind (arith, nat_tests)

near : (t : Bool) (b : ℕ) → ltb b 128 ≡ t → should_percent_encode ESCAPED b ≡ not (stays b)
unfolding should_percent_encode
near true b is = agreed (should_percent_encode ESCAPED b) (not (stays b)) (at_below agrees 128 b ascii_agrees (grind (arith, nat_tests)))
near false b is = outside b (grind (arith, nat_tests))

chosen : (t : Bool) (b : ℕ) → should_percent_encode ESCAPED b ≡ not t → cond (should_percent_encode ESCAPED b) (percent_encode_byte b) (b ∷ []) ≡ cond t (b ∷ []) (percent_encode_byte b)
chosen true b is = rw is refl
chosen false b is = rw is refl

byte_escaped : (b : ℕ) → encode_byte ESCAPED b ≡ cond (stays b) (b ∷ []) (percent_encode_byte b)
byte_escaped b = chosen (stays b) b (near (ltb b 128) b refl)

each_escaped : (name : List ℕ) → flat_map (encode_byte ESCAPED) name ≡ flat_map (λ b. cond (stays b) (b ∷ []) (percent_encode_byte b)) name
each_escaped [] = refl
each_escaped (b ∷ bs) =
    flat_map-cons (encode_byte ESCAPED) b bs
    ∙ ap (λ xs. xs ++ flat_map (encode_byte ESCAPED) bs) (byte_escaped b)
    ∙ ap (λ xs. cond (stays b) (b ∷ []) (percent_encode_byte b) ++ xs) (each_escaped bs)
    ∙ sym (flat_map-cons (λ c. cond (stays c) (c ∷ []) (percent_encode_byte c)) b bs)

pub escaped_by_set : (name : List ℕ) → percent_encode ESCAPED name ≡ escaped name
unfolding percent_encode escaped
escaped_by_set name = each_escaped name

-- ---- texts in which nothing is escaped

kept : (t : Bool) (b : ℕ) → t ≡ true → cond t (b ∷ []) (percent_encode_byte b) ≡ b ∷ []
kept true b is = refl
kept false b is = absurd (cc)

each_kept : (text : List ℕ) → list_all stays text ≡ true → flat_map (λ b. cond (stays b) (b ∷ []) (percent_encode_byte b)) text ≡ text
each_kept [] all = refl
each_kept (b ∷ bs) all =
    let h = both (stays b) (list_all stays bs) all in
    flat_map-cons (λ c. cond (stays c) (c ∷ []) (percent_encode_byte c)) b bs
    ∙ ap (λ xs. xs ++ flat_map (λ c. cond (stays c) (c ∷ []) (percent_encode_byte c)) bs) (kept (stays b) b h.0)
    ∙ ap (λ xs. (b ∷ []) ++ xs) (each_kept bs h.1)

-- where each byte stays, the text does
pub plain : (text : List ℕ) → list_all stays text ≡ true → escaped text ≡ text
unfolding escaped
plain text all = each_kept text all
