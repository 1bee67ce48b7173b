-- Fields are read one after another.
use Rattle.std.proofs.Common.{◌≡◌, ◌<◌, ℕ, zero, suc, ◌+◌, ◌-◌, List, [], ◌∷◌, ◌++◌, length, Option, Some, None, Result, Ok, Err, refl, sym, ap, ◌∙◌, append_assoc, append-nil, arith, eqb, true, false}
use Rattle.std.proofs.lemmas.Bool.Decides.{nat_tests}
use Rattle.proto_wire.specs.Wire.{Payload, WireField, with_prefix, fields_within, fields, field_at, before_others}

with_prefix-twice : (xs ys : List WireField) (r : Result (List WireField) ℕ) → with_prefix xs (with_prefix ys r) ≡ with_prefix (xs ++ ys) r
with_prefix-twice xs ys (Ok fs) = ap (λ (l : List WireField). Ok l) (sym (append_assoc xs ys fs))
with_prefix-twice xs ys (Err at) = refl

pub with_prefix-none : (r : Result (List WireField) ℕ) → with_prefix [] r ≡ r
with_prefix-none (Ok fs) = refl
with_prefix-none (Err at) = refl

-- a field is read, and the others after it
pub field_more : (prefix : List WireField) (n m at at' number : ℕ) (payload : Payload) (bs rest : List ℕ)
    → 0 < length bs → n ≡ m + 1 → at' ≡ at + (length bs - length rest) → Some ((number, payload), rest) ≡ field_at bs
    → with_prefix prefix (fields_within n at bs) ≡ with_prefix (prefix ++ record { at = at; number = number; payload = payload } ∷ []) (fields_within m at' rest)
unfolding fields_within
field_more prefix n m at at' number payload [] rest some e p is = absurd (omega arith)
field_more prefix zero m at at' number payload (b ∷ bs) rest some e p is = absurd (omega arith)
field_more prefix (suc n) m at at' number payload (b ∷ bs) rest some e p is =
    let same : n ≡ m = omega arith in
    let one : List WireField = record { at = at; number = number; payload = payload } ∷ [] in
    let next = at + (length (b ∷ bs) - length rest) in
    ap (λ (o : Option ((ℕ × Payload) × List ℕ)). with_prefix prefix (before_others at (b ∷ bs) o (λ a r. fields_within n a r))) (sym is)
    ∙ (with_prefix-twice prefix one (fields_within n next rest)
    ∙ (ap (λ k. with_prefix (prefix ++ one) (fields_within k next rest)) same
    ∙ ap (λ a. with_prefix (prefix ++ one) (fields_within m a rest)) (sym p)))

-- a field can't be read
pub field_fails : (prefix : List WireField) (n at : ℕ) (bs : List ℕ) → 0 < length bs → None ≡ field_at bs → with_prefix prefix (fields_within n at bs) ≡ Err at
unfolding fields_within
field_fails prefix n at [] some is = absurd (omega arith)
field_fails prefix zero at (b ∷ bs) some is = refl
field_fails prefix (suc n) at (b ∷ bs) some is =
    ap (λ (o : Option ((ℕ × Payload) × List ℕ)). with_prefix prefix (before_others at (b ∷ bs) o (λ a r. fields_within n a r))) (sym is)

-- no bytes are left
pub fields_end : (prefix : List WireField) (n at : ℕ) (bs : List ℕ) → length bs ≡ 0 → with_prefix prefix (fields_within n at bs) ≡ Ok prefix
unfolding fields_within
fields_end prefix n at [] e = rw append-nil refl
fields_end prefix n at (b ∷ bs) e = absurd (omega arith)

pub fields_begin : (bs : List ℕ) → with_prefix [] (fields_within (length bs) 0 bs) ≡ fields bs
unfolding fields
fields_begin bs = with_prefix-none (fields_within (length bs) 0 bs)

pub nonempty : (bs : List ℕ) → eqb (length bs) 0 ≡ false → 0 < length bs
nonempty [] e = cc
nonempty (b ∷ bs) e = omega arith

pub emptied : (bs : List ℕ) → eqb (length bs) 0 ≡ true → length bs ≡ 0
emptied bs e = grind (arith, nat_tests)
