-- A varint is read byte by byte.
use Rattle.std.proofs.Common.{◌≡◌, ◌<◌, ◌≤◌, ℕ, zero, suc, ◌-◌, List, [], ◌∷◌, length, take, drop, get_or, Option, Some, None, false, ltb, refl, sub-one, arith}
use Rattle.std.proofs.lemmas.Bool.{lt-ltb}
use Rattle.std.proofs.lemmas.Bool.Decides.{nat_tests}
use Rattle.std.proofs.lemmas.List.{take_rest}
use Rattle.proto_wire.specs.Wire.{varint_within, onto_low}

pub varint_none : (bs : List ℕ) → varint_within 0 bs ≡ None
unfolding varint_within
varint_none [] = refl
varint_none (b ∷ bs) = refl

pub varint_last : (n b : ℕ) (bs : List ℕ) → 0 < n → b < 128 → varint_within n (b ∷ bs) ≡ Some (b, bs)
unfolding varint_within
varint_last zero b bs some lt = absurd (omega arith)
varint_last (suc n) b bs some lt = rw (lt-ltb b 128 lt) refl

pub varint_more : (n b : ℕ) (bs : List ℕ) → 0 < n → 128 ≤ b → varint_within n (b ∷ bs) ≡ onto_low b (varint_within (n - 1) bs)
unfolding varint_within
varint_more zero b bs some le = absurd (omega arith)
varint_more (suc n) b bs some le =
    let more : ltb b 128 ≡ false = grind (arith, nat_tests) in rw (more, sub-one) refl

-- the same where the rest is cut off by its place
pub cut_none : (n : ℕ) (bs : List ℕ) → n ≡ 0 → None ≡ varint_within n bs
cut_none n bs e = rw (e, varint_none) refl

pub cut_empty : (n : ℕ) (bs : List ℕ) → length bs < 1 → None ≡ varint_within n bs
unfolding varint_within
cut_empty n [] lt = refl
cut_empty n (b ∷ bs) lt = absurd (omega arith)

pub cut_last : (n v : ℕ) (bs : List ℕ) → 0 < n → 1 ≤ length bs → get_or bs 0 0 < 128 → v ≡ get_or bs 0 0 → Some (v, take (length bs - 1) (drop 1 bs)) ≡ varint_within n bs
cut_last n v [] some le lt e = absurd (omega arith)
cut_last n v (b ∷ bs) some le lt e = rw (e, take_rest, varint_last n b bs some lt) refl

pub cut_more : (n : ℕ) (bs : List ℕ) (high : Option (ℕ × List ℕ)) → 0 < n → 1 ≤ length bs → 128 ≤ get_or bs 0 0
    → high ≡ varint_within (n - 1) (take (length bs - 1) (drop 1 bs)) → onto_low (get_or bs 0 0) high ≡ varint_within n bs
cut_more n [] high some le ge e = absurd (omega arith)
cut_more n (b ∷ bs) high some le ge e =
    let same : high ≡ varint_within (n - 1) bs = rw take_rest at e in
    rw (same, varint_more n b bs some ge) refl
