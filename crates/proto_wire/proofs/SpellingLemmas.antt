-- A varint is spelled byte by byte.
use Rattle.std.proofs.Common.{◌≡◌, ◌≤◌, ◌<◌, ℕ, zero, suc, ◌+◌, ◌-◌, ◌/◌, ◌%◌, false, ltb, List, [], ◌∷◌, ◌++◌, refl, sub-one, arith, append-nil, append_assoc}
use Rattle.std.proofs.lemmas.Bool.{lt-ltb}
use Rattle.std.proofs.lemmas.Bool.Decides.{nat_tests}
use Rattle.proto_wire.specs.Spelling.{spelled_within}

pub spelled_none : (n v : ℕ) (old : List ℕ) → n ≡ 0 → old ≡ old ++ spelled_within n v
unfolding spelled_within
spelled_none n v old e = rw (e, append-nil) refl

pub spelled_last : (n v : ℕ) → 0 < n → v < 128 → spelled_within n v ≡ v ∷ []
unfolding spelled_within
spelled_last zero v some lt = absurd (omega arith)
spelled_last (suc n) v some lt = rw (lt-ltb v 128 lt) refl

pub spelled_more : (n v : ℕ) (old : List ℕ) → 0 < n → 128 ≤ v → (old ++ (128 + v % 128) ∷ []) ++ spelled_within (n - 1) (v / 128) ≡ old ++ spelled_within n v
unfolding spelled_within
spelled_more zero v old some le = absurd (omega arith)
spelled_more (suc n) v old some le =
    let more : ltb v 128 ≡ false = grind (arith, nat_tests) in
    rw (more, sub-one) (append_assoc old ((128 + v % 128) ∷ []) (spelled_within n (v / 128)))
