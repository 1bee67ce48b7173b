-- A field is read from what spells it, and from nothing else.
use Rattle.std.proofs.Common.{◌≡◌, ◌<◌, ◌≤◌, ℕ, ◌+◌, ◌*◌, ◌/◌, ◌%◌, List, ◌++◌, length, take, drop, Bool, true, false, ◌||◌, cond, ltb, eqb, Option, Some, None, refl, sym, ap, subst, ◌∙◌, append_assoc, arith}
use Rattle.std.specs.Prelude.{option_map, option_and_then}
use Rattle.std.specs.Int.{w32, w64, from_le_bytes}
use Rattle.std.proofs.lemmas.Bool.Decides.{nat_tests}
use Rattle.std.proofs.lemmas.List.{length-append, length-take-le, take-append-drop}
use Rattle.std.proofs.lemmas.Option.{option_and_then_some}
use Rattle.std.proofs.Math.Seq.{take-append_seam, drop-append_seam}
use Rattle.proto_wire.specs.Spells.{SpellsVarint, SpellsPayload, SpellsField, wire_type}
use Rattle.proto_wire.specs.Wire.{Payload, varint, eight, bytes, four, varint_at, fixed_at, delimited_at, payload_at, field_at}
use Rattle.proto_wire.proofs.Lists.{regrouped}
use Rattle.proto_wire.proofs.Pairs.{some_of, some_pair, let_through, neither}
use Rattle.proto_wire.proofs.VarintSpelling.{varint-reads, varint-spelled, varint-some, SpelledVarint}

-- n bytes at the beginning, whatever is made of them
cut-reads : {A : Type 0} (n : ℕ) (bs rest : List ℕ) (f : List ℕ → A) → length bs ≡ n
    → cond (ltb (length (bs ++ rest)) n) None (some_of (f (take n (bs ++ rest))) (drop n (bs ++ rest))) ≡ some_of (f bs) rest
cut-reads n bs rest f len =
    let enough : ltb (length (bs ++ rest)) n ≡ false = let e = length-append bs rest in grind (arith, nat_tests, e) in
    let prefix : take n (bs ++ rest) ≡ bs = ap (λ k. take k (bs ++ rest)) (sym len) ∙ take-append_seam bs rest in
    let after : drop n (bs ++ rest) ≡ rest = ap (λ k. drop k (bs ++ rest)) (sym len) ∙ drop-append_seam bs rest in
    rw (enough, prefix, after) refl

cut-spelled : {A : Type 0} (n : ℕ) (v : A) (bs rest : List ℕ) (f : List ℕ → A) → cond (ltb (length bs) n) None (some_of (f (take n bs)) (drop n bs)) ≡ some_of v rest
    → (length (take n bs) ≡ n) × (v ≡ f (take n bs)) × (bs ≡ take n bs ++ rest)
cut-spelled n v bs rest f e =
    let through = let_through (ltb (length bs) n) (f (take n bs), drop n bs) (v, rest) e in
    let le : n ≤ length bs = let t = through.0 in grind (arith, nat_tests) in
    let parts = some_pair (f (take n bs)) v (drop n bs) rest (ap (λ p. Some p) through.1) in
    (length-take-le n bs le, sym parts.0, sym (take-append-drop n bs) ∙ ap (λ (l : List ℕ). take n bs ++ l) parts.1)

delimited-reads : (b len rest : List ℕ) → SpellsVarint (length b) len → delimited_at ((len ++ b) ++ rest) ≡ Some (b, rest)
unfolding delimited_at
delimited-reads b len rest h =
    ap (λ (l : List ℕ). delimited_at l) (append_assoc len b rest)
    ∙ (ap (option_and_then (λ (n : ℕ × List ℕ). cond (ltb (length n.1) n.0) None (Some (take n.0 n.1, drop n.0 n.1)))) (varint-reads (length b) len (b ++ rest) h)
    ∙ cut-reads (length b) b rest (λ l. l) refl)

-- what is read, with the bytes that spell it
record PayloadPrefix (payload : Payload) (rest bs : List ℕ) : Type 0 where
  body : List ℕ
  split : bs ≡ body ++ rest
  spelled : SpellsPayload payload body

delimited-spelled : (b bs rest : List ℕ) → delimited_at bs ≡ Some (b, rest) → PayloadPrefix (bytes b) rest bs
unfolding delimited_at
delimited-spelled b bs rest e =
    option_and_then_some (λ (n : ℕ × List ℕ). cond (ltb (length n.1) n.0) None (Some (take n.0 n.1, drop n.0 n.1))) (varint_at bs) (b, rest) e
    (λ n is e'.
    let len : SpelledVarint n.0 n.1 bs = varint-spelled n.0 bs n.1 is in
    let parts = cut-spelled n.0 b n.1 rest (λ l. l) e' in
    let same : length b ≡ n.0 = ap length parts.1 ∙ parts.0 in
    record {
      body = len.prefix ++ b;
      split = regrouped len.prefix b rest n.1 bs len.split (parts.2 ∙ ap (λ (l : List ℕ). l ++ rest) (sym parts.1));
      spelled = (len.prefix, subst (λ k. SpellsVarint k len.prefix) (sym same) len.spelled, refl);
    })

-- the payload of a value, with the bytes after it
abbrev with_payload : {A : Type 0} → (A → Payload) → A × List ℕ → Payload × List ℕ
with_payload f r = (f r.0, r.1)

payload-reads : (p : Payload) (body rest : List ℕ) → SpellsPayload p body → payload_at (wire_type p) (body ++ rest) ≡ some_of p rest
unfolding payload_at
payload-reads (varint v) body rest h = ap (option_map (with_payload (λ v. varint v))) (varint-reads v body rest h)
payload-reads (eight v) body rest h =
    ap (option_map (with_payload (λ v. eight v))) (cut-reads 8 body rest (from_le_bytes w64) h.0 ∙ ap (λ k. Some (k, rest)) (sym h.1))
payload-reads (bytes b) body rest h =
    ap (option_map (with_payload (λ v. bytes v))) (ap (λ (l : List ℕ). delimited_at (l ++ rest)) h.2 ∙ delimited-reads b h.0 rest h.1)
payload-reads (four v) body rest h =
    ap (option_map (with_payload (λ v. four v))) (cut-reads 4 body rest (from_le_bytes w32) h.0 ∙ ap (λ k. Some (k, rest)) (sym h.1))

mapped : {A : Type 0} (f : A → Payload) (o : Option (A × List ℕ)) (p : Payload) (rest : List ℕ) → option_map (with_payload f) o ≡ some_of p rest
    → (x : A) × (o ≡ some_of x rest) × (f x ≡ p)
mapped f None p rest e = cc
mapped f (Some r) p rest e = let parts = some_pair (f r.0) p r.1 rest e in (r.0, ap (λ s. Some (r.0, s)) parts.1, parts.0)

record PayloadOf (t : ℕ) (p : Payload) (rest bs : List ℕ) : Type 0 where
  prefix : PayloadPrefix p rest bs
  typed : wire_type p ≡ t

of_varint : (t : ℕ) (bs : List ℕ) (p : Payload) (rest : List ℕ) → t ≡ 0 → option_map (with_payload (λ v. varint v)) (varint_at bs) ≡ some_of p rest → PayloadOf t p rest bs
of_varint t bs p rest is e =
    let m = mapped (λ v. varint v) (varint_at bs) p rest e in
    let f : SpelledVarint m.0 rest bs = varint-spelled m.0 bs rest m.1 in
    subst (λ q. PayloadOf t q rest bs) m.2 (record { prefix = record { body = f.prefix; split = f.split; spelled = f.spelled }; typed = sym is })

of_eight : (t : ℕ) (bs : List ℕ) (p : Payload) (rest : List ℕ) → t ≡ 1 → option_map (with_payload (λ v. eight v)) (fixed_at w64 bs) ≡ some_of p rest → PayloadOf t p rest bs
of_eight t bs p rest is e =
    let m = mapped (λ v. eight v) (fixed_at w64 bs) p rest e in
    let c = cut-spelled 8 m.0 bs rest (from_le_bytes w64) m.1 in
    subst (λ q. PayloadOf t q rest bs) m.2 (record { prefix = record { body = take 8 bs; split = c.2; spelled = (c.0, c.1) }; typed = sym is })

of_bytes : (t : ℕ) (bs : List ℕ) (p : Payload) (rest : List ℕ) → t ≡ 2 → option_map (with_payload (λ v. bytes v)) (delimited_at bs) ≡ some_of p rest → PayloadOf t p rest bs
of_bytes t bs p rest is e =
    let m = mapped (λ b. bytes b) (delimited_at bs) p rest e in
    subst (λ q. PayloadOf t q rest bs) m.2 (record { prefix = delimited-spelled m.0 bs rest m.1; typed = sym is })

of_four : (t : ℕ) (bs : List ℕ) (p : Payload) (rest : List ℕ) → t ≡ 5 → option_map (with_payload (λ v. four v)) (fixed_at w32 bs) ≡ some_of p rest → PayloadOf t p rest bs
of_four t bs p rest is e =
    let m = mapped (λ v. four v) (fixed_at w32 bs) p rest e in
    let c = cut-spelled 4 m.0 bs rest (from_le_bytes w32) m.1 in
    subst (λ q. PayloadOf t q rest bs) m.2 (record { prefix = record { body = take 4 bs; split = c.2; spelled = (c.0, c.1) }; typed = sym is })

is_type : (t n : ℕ) → eqb t n ≡ true → t ≡ n
is_type t n e = grind (arith, nat_tests)

by_type : (t : ℕ) (bs : List ℕ) (p : Payload) (rest : List ℕ) (b0 b1 b2 b5 : Bool) → eqb t 0 ≡ b0 → eqb t 1 ≡ b1 → eqb t 2 ≡ b2 → eqb t 5 ≡ b5
    → cond b0 (option_map (with_payload (λ v. varint v)) (varint_at bs))
    (cond b1 (option_map (with_payload (λ v. eight v)) (fixed_at w64 bs))
    (cond b2 (option_map (with_payload (λ v. bytes v)) (delimited_at bs))
    (cond b5 (option_map (with_payload (λ v. four v)) (fixed_at w32 bs)) None))) ≡ some_of p rest
    → PayloadOf t p rest bs
by_type t bs p rest true b1 b2 b5 e0 e1 e2 e5 e = of_varint t bs p rest (is_type t 0 e0) e
by_type t bs p rest false true b2 b5 e0 e1 e2 e5 e = of_eight t bs p rest (is_type t 1 e1) e
by_type t bs p rest false false true b5 e0 e1 e2 e5 e = of_bytes t bs p rest (is_type t 2 e2) e
by_type t bs p rest false false false true e0 e1 e2 e5 e = of_four t bs p rest (is_type t 5 e5) e
by_type t bs p rest false false false false e0 e1 e2 e5 e = cc

payload-spelled : (t : ℕ) (bs : List ℕ) (p : Payload) (rest : List ℕ) → payload_at t bs ≡ some_of p rest → PayloadOf t p rest bs
unfolding payload_at
payload-spelled t bs p rest e = by_type t bs p rest (eqb t 0) (eqb t 1) (eqb t 2) (eqb t 5) refl refl refl refl e

wire_type-small : (p : Payload) → wire_type p < 8
wire_type-small (varint v) = omega arith
wire_type-small (eight v) = omega arith
wire_type-small (bytes b) = omega arith
wire_type-small (four v) = omega arith

-- the number and payload behind a tag
abbrev behind : ℕ → Option (Payload × List ℕ) → Option ((ℕ × Payload) × List ℕ)
behind tag o = option_and_then (λ (r : Payload × List ℕ). cond (eqb (tag / 8) 0 || ltb 536870911 (tag / 8)) None (Some ((tag / 8, r.0), r.1))) o

behind-reads : (tag number : ℕ) (p : Payload) (rest : List ℕ) → tag / 8 ≡ number → 0 < number → number ≤ 536870911 → behind tag (Some (p, rest)) ≡ Some ((number, p), rest)
behind-reads tag number p rest is some most =
    let zero_not : eqb number 0 ≡ false = grind (arith, nat_tests) in
    let most_not : ltb 536870911 number ≡ false = grind (arith, nat_tests) in
    rw (is, zero_not, most_not) refl

pub field-reads : (number : ℕ) (p : Payload) (first rest : List ℕ) → SpellsField number p first → field_at (first ++ rest) ≡ Some ((number, p), rest)
unfolding field_at
field-reads number p first rest f =
    let small = wire_type-small p in
    let tag = 8 * number + wire_type p in
    let type_is : tag % 8 ≡ wire_type p = omega arith in
    let number_is : tag / 8 ≡ number = omega arith in
    ap (λ (l : List ℕ). field_at (l ++ rest)) f.split
    ∙ (ap (λ (l : List ℕ). field_at l) (append_assoc f.tag f.body rest)
    ∙ (ap (option_and_then (λ (t : ℕ × List ℕ). behind t.0 (payload_at (t.0 % 8) t.1))) (varint-reads tag f.tag (f.body ++ rest) f.tagged)
    ∙ (ap (λ k. behind tag (payload_at k (f.body ++ rest))) type_is
    ∙ (ap (behind tag) (payload-reads p f.body rest f.behind)
    ∙ behind-reads tag number p rest number_is f.least f.most))))

-- a field that is read, with the bytes that spell it
pub record FieldPrefix (number : ℕ) (p : Payload) (rest bs : List ℕ) : Type 0 where
  pub first : List ℕ
  pub split : bs ≡ first ++ rest
  pub spelled : SpellsField number p first

tagged : (tag : ℕ) (after : List ℕ) (p : Payload) (rest bs : List ℕ) → SpelledVarint tag after bs → PayloadOf (tag % 8) p rest after
    → 0 < tag / 8 → tag / 8 ≤ 536870911 → FieldPrefix (tag / 8) p rest bs
tagged tag after p rest bs t b some most =
    let is : tag ≡ 8 * (tag / 8) + wire_type p = omega (arith, b.typed) in
    record {
      first = t.prefix ++ b.prefix.body;
      split = regrouped t.prefix b.prefix.body rest after bs t.split b.prefix.split;
      spelled = record {
        least = some;
        most = most;
        tag = t.prefix;
        body = b.prefix.body;
        split = refl;
        tagged = subst (λ k. SpellsVarint k t.prefix) is t.spelled;
        behind = b.prefix.spelled;
      };
    }

moved : (x y : (ℕ × Payload) × List ℕ) (bs : List ℕ) → x ≡ y → FieldPrefix x.0.0 x.0.1 x.1 bs → FieldPrefix y.0.0 y.0.1 y.1 bs
moved x y bs e h = subst (λ z. FieldPrefix z.0.0 z.0.1 z.1 bs) e h

pub field-spelled : (number : ℕ) (p : Payload) (bs rest : List ℕ) → field_at bs ≡ Some ((number, p), rest) → FieldPrefix number p rest bs
unfolding field_at
field-spelled number p bs rest e =
    option_and_then_some (λ (t : ℕ × List ℕ). behind t.0 (payload_at (t.0 % 8) t.1)) (varint_at bs) ((number, p), rest) e
    (λ t is e'.
    option_and_then_some (λ (r : Payload × List ℕ). cond (eqb (t.0 / 8) 0 || ltb 536870911 (t.0 / 8)) None (Some ((t.0 / 8, r.0), r.1))) (payload_at (t.0 % 8) t.1) ((number, p), rest) e'
    (λ r is' e''.
    let through = let_through (eqb (t.0 / 8) 0 || ltb 536870911 (t.0 / 8)) ((t.0 / 8, r.0), r.1) ((number, p), rest) e'' in
    let both = neither (eqb (t.0 / 8) 0) (ltb 536870911 (t.0 / 8)) through.0 in
    let some : 0 < t.0 / 8 = let z = both.0 in grind (arith, nat_tests) in
    let most : t.0 / 8 ≤ 536870911 = let m = both.1 in grind (arith, nat_tests) in
    moved ((t.0 / 8, r.0), r.1) ((number, p), rest) bs through.1
    (tagged t.0 t.1 r.0 r.1 bs (varint-spelled t.0 bs t.1 is) (payload-spelled (t.0 % 8) t.1 r.0 r.1 is') some most)))

pub field-some : (number : ℕ) (p : Payload) (first : List ℕ) → SpellsField number p first → 0 < length first
field-some number p first f =
    let tag = varint-some (8 * number + wire_type p) f.tag f.tagged in
    let len = ap length f.split ∙ length-append f.tag f.body in omega arith
