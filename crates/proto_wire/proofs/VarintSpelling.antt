-- A varint is read from what spells it, and from nothing else.
use Rattle.std.proofs.Common.{◌≡◌, ◌<◌, ◌≤◌, ℕ, zero, suc, ◌+◌, ◌-◌, ◌*◌, ◌^◌, List, [], ◌∷◌, ◌++◌, length, Bool, true, false, cond, ltb, Option, Some, None, refl, sym, ap, ◌∙◌, arith}
use Rattle.std.proofs.lemmas.Bool.{lt-ltb}
use Rattle.std.proofs.lemmas.Bool.Decides.{nat_tests}
use Rattle.proto_wire.specs.Spells.{StandsFor, SpellsVarint}
use Rattle.proto_wire.specs.Wire.{varint_within, varint_at, onto_low, with_rest, fits}
use Rattle.proto_wire.proofs.Pairs.{some_of, some_pair}
use Rattle.proto_wire.proofs.VarintLemmas.{varint_last, varint_more}

-- spelled bytes are read, whatever follows
fits-small : (v : ℕ) → v < 2 ^ 64 → fits v ≡ Some v
fits-small v lt = rw (lt-ltb v (2 ^ 64) lt) refl

pub reads_stands : (n v : ℕ) (bs rest : List ℕ) → StandsFor bs v → length bs ≤ n → v < 2 ^ 64 → varint_within n (bs ++ rest) ≡ Some (v, rest)
reads_stands n v [] rest h le lt = absurd h
reads_stands n v (b ∷ []) rest h le lt =
    varint_last n b rest (omega arith) h.0 ∙ ap (λ (k : ℕ). Some (k, rest)) (sym h.1)
reads_stands n v (b ∷ c ∷ bs) rest h le lt =
    let small : h.1 < 2 ^ 64 = omega (arith, h.2, lt) in
    let high : varint_within (n - 1) ((c ∷ bs) ++ rest) ≡ Some (h.1, rest) = reads_stands (n - 1) h.1 (c ∷ bs) rest h.3 (omega arith) small in
    varint_more n b ((c ∷ bs) ++ rest) (omega arith) h.0
    ∙ (ap (onto_low b) high
    ∙ (ap (with_rest rest) (ap fits (sym h.2) ∙ fits-small v lt)))

pub varint-reads : (v : ℕ) (bs rest : List ℕ) → SpellsVarint v bs → varint_at (bs ++ rest) ≡ Some (v, rest)
unfolding varint_at
varint-reads v bs rest h = reads_stands 10 v bs rest h.stands h.few h.fits

-- what is read is spelled
record VarintPrefix (n v : ℕ) (rest bs : List ℕ) : Type 0 where
  prefix : List ℕ
  split : bs ≡ prefix ++ rest
  stands : StandsFor prefix v
  few : length prefix ≤ n
  fits : v < 2 ^ 64

one : (n b v : ℕ) (bs rest : List ℕ) → b < 128 → 0 < n → some_of b bs ≡ some_of v rest → VarintPrefix n v rest (b ∷ bs)
one n b v bs rest lt some e =
    let value : b ≡ v = (some_pair b v bs rest e).0 in
    let after : bs ≡ rest = (some_pair b v bs rest e).1 in
    record { prefix = b ∷ []; split = ap (λ (l : List ℕ). b ∷ l) after; stands = (lt, sym value); few = omega arith; fits = omega arith }

longer : (b high v : ℕ) (prefix : List ℕ) → 128 ≤ b → v ≡ b - 128 + 128 * high → StandsFor prefix high → StandsFor (b ∷ prefix) v
longer b high v [] le e h = absurd h
longer b high v (c ∷ prefix) le e h = (le, high, e, h)

fitting : (k v : ℕ) (after rest : List ℕ) (t : Bool) → ltb k (2 ^ 64) ≡ t → with_rest after (cond t (Some k) None) ≡ Some (v, rest) → (k ≡ v) × (after ≡ rest) × (k < 2 ^ 64)
fitting k v after rest true t e =
    let parts = some_pair k v after rest e in (parts.0, parts.1, grind (arith, nat_tests))
fitting k v after rest false t e = cc

more : (n b v : ℕ) (bs rest : List ℕ) (high : Option (ℕ × List ℕ)) → 128 ≤ b → varint_within n bs ≡ high → onto_low b high ≡ Some (v, rest)
    → ((h : ℕ) (r : List ℕ) → varint_within n bs ≡ Some (h, r) → VarintPrefix n h r bs) → VarintPrefix (n + 1) v rest (b ∷ bs)
more n b v bs rest None le is e spelled = cc
more n b v bs rest (Some (h, r)) le is e spelled =
    let found : VarintPrefix n h r bs = spelled h r is in
    let fit = fitting (b - 128 + 128 * h) v r rest _ refl e in
    record {
      prefix = b ∷ found.prefix;
      split = ap (λ (l : List ℕ). b ∷ l) (found.split ∙ ap (λ (l : List ℕ). found.prefix ++ l) fit.1);
      stands = longer b h v found.prefix le (sym fit.0) found.stands;
      few = omega (arith, found.few);
      fits = omega (arith, fit.0, fit.2);
    }

byte : (n b v : ℕ) (bs rest : List ℕ) (t : Bool) → ltb b 128 ≡ t → cond t (Some (b, bs)) (onto_low b (varint_within n bs)) ≡ Some (v, rest)
    → ((h : ℕ) (r : List ℕ) → varint_within n bs ≡ Some (h, r) → VarintPrefix n h r bs) → VarintPrefix (n + 1) v rest (b ∷ bs)
byte n b v bs rest true t e spelled = one (n + 1) b v bs rest (grind (arith, nat_tests)) (omega arith) e
byte n b v bs rest false t e spelled = more n b v bs rest (varint_within n bs) (grind (arith, nat_tests)) refl e spelled

add_one : (n v : ℕ) (rest bs : List ℕ) → VarintPrefix (n + 1) v rest bs → VarintPrefix (suc n) v rest bs
add_one n v rest bs f = record { prefix = f.prefix; split = f.split; stands = f.stands; few = omega (arith, f.few); fits = f.fits }

within-spelled : (n v : ℕ) (bs rest : List ℕ) → varint_within n bs ≡ Some (v, rest) → VarintPrefix n v rest bs
unfolding varint_within
within-spelled zero v [] rest e = cc
within-spelled (suc n) v [] rest e = cc
within-spelled zero v (b ∷ bs) rest e = cc
within-spelled (suc n) v (b ∷ bs) rest e = add_one n v rest (b ∷ bs) (byte n b v bs rest (ltb b 128) refl e (λ h r is. within-spelled n h bs r is))

pub record SpelledVarint (v : ℕ) (rest bs : List ℕ) : Type 0 where
  pub prefix : List ℕ
  pub split : bs ≡ prefix ++ rest
  pub spelled : SpellsVarint v prefix

pub varint-spelled : (v : ℕ) (bs rest : List ℕ) → varint_at bs ≡ Some (v, rest) → SpelledVarint v rest bs
unfolding varint_at
varint-spelled v bs rest e =
    let f : VarintPrefix 10 v rest bs = within-spelled 10 v bs rest e in
    record { prefix = f.prefix; split = f.split; spelled = record { stands = f.stands; few = f.few; fits = f.fits } }

pub varint-some : (v : ℕ) (bs : List ℕ) → SpellsVarint v bs → 0 < length bs
varint-some v [] h = absurd h.stands
varint-some v (b ∷ bs) h = omega arith
