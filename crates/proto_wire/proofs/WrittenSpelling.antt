-- What is written spells its field, with the shortest varints.
use Rattle.std.proofs.Common.{◌≡◌, ◌<◌, ◌≤◌, ℕ, zero, suc, ◌+◌, ◌*◌, ◌/◌, ◌%◌, ◌^◌, List, [], ◌∷◌, ◌++◌, length, Bool, true, false, cond, ltb, refl, subst, append_assoc, arith}
use Rattle.std.specs.List.{AllByRecursion}
use Rattle.std.proofs.lemmas.Bool.Decides.{nat_tests}
use Rattle.proto_wire.specs.Spelling.{spelled_within, spelled_varint}
use Rattle.proto_wire.specs.Spells.{StandsFor, SpellsVarint, WritingIsASpelling, WrittenVarintsAreShortest}

-- a number of at most n + 1 groups of seven bits
abbrev Groups : ℕ → ℕ → Type 0
Groups zero v = v < 128
Groups (suc n) v = Groups n (v / 128)

ten_groups : (v : ℕ) → v < 2 ^ 64 → Groups 9 v
ten_groups v lt =
    let a : v / 128 < 2 ^ 57 = omega arith in
    let b : v / 128 / 128 < 2 ^ 50 = omega arith in
    let c : v / 128 / 128 / 128 < 2 ^ 43 = omega arith in
    let d : v / 128 / 128 / 128 / 128 < 2 ^ 36 = omega arith in
    let e : v / 128 / 128 / 128 / 128 / 128 < 2 ^ 29 = omega arith in
    let f : v / 128 / 128 / 128 / 128 / 128 / 128 < 2 ^ 22 = omega arith in
    let g : v / 128 / 128 / 128 / 128 / 128 / 128 / 128 < 2 ^ 15 = omega arith in
    let h : v / 128 / 128 / 128 / 128 / 128 / 128 / 128 / 128 < 2 ^ 8 = omega arith in
    omega arith

record Stands (n v : ℕ) (bs : List ℕ) : Type 0 where
  stands : StandsFor bs v
  few : length bs ≤ n

onto : (n v : ℕ) (bs : List ℕ) → Stands n (v / 128) bs → Stands (suc n) v ((128 + v % 128) ∷ bs)
onto n v [] s = absurd s.stands
onto n v (c ∷ bs) s = let few = s.few in record { stands = (omega arith, v / 128, omega arith, s.stands); few = omega arith }

by_size : (n v : ℕ) (bs : List ℕ) (t : Bool) → ltb v 128 ≡ t → (v < 128 → Stands (suc n) v (v ∷ [])) → (128 ≤ v → Stands (suc n) v ((128 + v % 128) ∷ bs))
    → Stands (suc n) v (cond t (v ∷ []) ((128 + v % 128) ∷ bs))
by_size n v bs true e last more = last (grind (arith, nat_tests))
by_size n v bs false e last more = more (grind (arith, nat_tests))

stands : (n v : ℕ) → Groups n v → Stands (suc n) v (spelled_within (suc n) v)
unfolding spelled_within
stands zero v g =
    by_size zero v [] (ltb v 128) refl (λ lt. record { stands = (lt, refl); few = omega arith }) (λ le. absurd (omega arith))
stands (suc n) v g =
    by_size (suc n) v (spelled_within (suc n) (v / 128)) (ltb v 128) refl (λ lt. record { stands = (lt, refl); few = omega arith }) (λ le. onto (suc n) v (spelled_within (suc n) (v / 128)) (stands n (v / 128) g))

pub varint-written : (v : ℕ) → v < 2 ^ 64 → SpellsVarint v (spelled_varint v)
varint-written v lt = let s = stands 9 v (ten_groups v lt) in record { stands = s.stands; few = s.few; fits = lt }

tag_of : (number : ℕ) → 8 * number ≡ 8 * number + 0
tag_of number = omega arith

pub writing_is_a_spelling : WritingIsASpelling
writing_is_a_spelling number some most = (
  λ v lt. record {
    least = some;
    most = most;
    tag = spelled_varint (8 * number);
    body = spelled_varint v;
    split = refl;
    tagged = subst (λ k. SpellsVarint k (spelled_varint (8 * number))) (tag_of number) (varint-written (8 * number) (omega arith));
    behind = varint-written v lt;
  },
  λ b lt. record {
    least = some;
    most = most;
    tag = spelled_varint (8 * number + 2);
    body = spelled_varint (length b) ++ b;
    split = append_assoc (spelled_varint (8 * number + 2)) (spelled_varint (length b)) b;
    tagged = varint-written (8 * number + 2) (omega arith);
    behind = (spelled_varint (length b), varint-written (length b) lt, refl);
  },
)

-- a written varint is no longer than any other spelling
step : (n v : ℕ) (bs ws : List ℕ) (t : Bool) → 1 ≤ n → length ws ≤ n → length (cond t (v ∷ []) ((128 + v % 128) ∷ ws)) ≤ suc n
step n v bs ws true some le = omega arith
step n v bs ws false some le = omega arith

small_step : (v : ℕ) (ws : List ℕ) → v < 128 → length (cond (ltb v 128) (v ∷ []) ((128 + v % 128) ∷ ws)) ≤ 1
small_step v ws lt = let t : ltb v 128 ≡ true = grind (arith, nat_tests) in rw t (omega arith)

shortest : (n v : ℕ) (bs : List ℕ) → AllByRecursion (λ b. b < 256) bs → StandsFor bs v → length (spelled_within n v) ≤ length bs
unfolding spelled_within
shortest n v [] h s = absurd s
shortest zero v (b ∷ []) h s = omega arith
shortest (suc n) v (b ∷ []) h s = small_step v (spelled_within n (v / 128)) (omega (arith, s.0, s.1))
shortest zero v (b ∷ c ∷ bs) h s = omega arith
shortest (suc n) v (b ∷ c ∷ bs) h s =
    let high : v / 128 ≡ s.1 = omega (arith, s.0, s.2, h.0) in
    let ih = shortest n s.1 (c ∷ bs) h.1 s.3 in
    let le : length (spelled_within n (v / 128)) ≤ length (c ∷ bs) = rw high ih in
    step (length (c ∷ bs)) v bs (spelled_within n (v / 128)) (ltb v 128) (omega arith) le

pub written_varints_are_shortest : WrittenVarintsAreShortest
written_varints_are_shortest v bs h s = shortest 10 v bs h s.stands
