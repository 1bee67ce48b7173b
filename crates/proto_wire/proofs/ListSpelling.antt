-- A list of fields is read from what spells it, and from nothing else.
use Rattle.std.proofs.Common.{◌≡◌, ◌≤◌, ℕ, zero, suc, ◌+◌, ◌-◌, List, [], ◌∷◌, ◌++◌, length, Option, Some, None, Result, Ok, Err, refl, sym, ap, subst, ◌∙◌, append_assoc, arith}
use Rattle.std.specs.Prelude.{MatchResult}
use Rattle.std.proofs.lemmas.List.{length-append}
use Rattle.proto_wire.specs.Spells.{SpellFrom, Spell, IsAfterLongest, ReadingIsTheSpelling}
use Rattle.proto_wire.specs.Wire.{Payload, WireField, with_prefix, before_others, field_at, fields_within, fields}
use Rattle.proto_wire.proofs.FieldLemmas.{field_more, with_prefix-none}
use Rattle.proto_wire.proofs.FieldSpelling.{field-reads, field-spelled, field-some, FieldPrefix}
use Rattle.proto_wire.proofs.Lists.{regrouped}
use Rattle.proto_wire.proofs.Pairs.{some_pair}

placed : (f : WireField) (at : ℕ) → f.at ≡ at → record { at = at; number = f.number; payload = f.payload } ≡ f
placed f at e = ap (λ (k : ℕ). record f { at = k }) (sym e)

-- a list that spells the bytes is what is read
pub fields-read : (n at : ℕ) (gs : List WireField) (bs : List ℕ) → SpellFrom at gs bs → length bs ≤ n → fields_within n at bs ≡ Ok gs
unfolding fields_within
fields-read n at [] bs h le = ap (fields_within n at) h
fields-read n at (g ∷ gs) bs (first, rest, split, place, field, others) le =
    let some = field-some g.number g.payload first field in
    let len : length bs ≡ length first + length rest = ap length split ∙ length-append first rest in
    let is : field_at bs ≡ Some ((g.number, g.payload), rest) = ap field_at split ∙ field-reads g.number g.payload first rest field in
    let next : with_prefix [] (fields_within n at bs) ≡ with_prefix (record { at = at; number = g.number; payload = g.payload } ∷ []) (fields_within (n - 1) (at + length first) rest) =
    field_more [] n (n - 1) at (at + length first) g.number g.payload bs rest (omega arith) (omega arith) (omega arith) (sym is) in
    let ih = fields-read (n - 1) (at + length first) gs rest others (omega arith) in
    sym (with_prefix-none (fields_within n at bs))
    ∙ (next
    ∙ (ap (with_prefix (record { at = at; number = g.number; payload = g.payload } ∷ [])) ih
    ∙ ap (λ (f : WireField). Ok (f ∷ gs)) (placed g at place)))

-- what is read spells the bytes
prefix_ok : (f : WireField) (r : Result (List WireField) ℕ) (fs : List WireField) → with_prefix (f ∷ []) r ≡ Ok fs → (gs : List WireField) × (r ≡ Ok gs) × (fs ≡ f ∷ gs)
prefix_ok f (Ok gs) fs e = (gs, refl, sym (let same : f ∷ gs ≡ fs = cc in same))
prefix_ok f (Err at) fs e = cc

prefix_err : (f : WireField) (r : Result (List WireField) ℕ) (p : ℕ) → with_prefix (f ∷ []) r ≡ Err p → r ≡ Err p
prefix_err f (Ok gs) p e = cc
prefix_err f (Err at) p e = e

abbrev field_of : ℕ → (ℕ × Payload) × List ℕ → WireField
field_of at x = record { at = at; number = x.0.0; payload = x.0.1 }

-- the place after the field
after_first : (at : ℕ) (bs first rest : List ℕ) → bs ≡ first ++ rest → at + (length bs - length rest) ≡ at + length first
after_first at bs first rest e = let len = ap length e ∙ length-append first rest in omega arith

spelled_more : (n at : ℕ) (bs : List ℕ) (o : Option ((ℕ × Payload) × List ℕ)) (fs : List WireField) → field_at bs ≡ o → length bs ≤ n + 1
    → before_others at bs o (λ a r. fields_within n a r) ≡ Ok fs
    → ((a : ℕ) (r : List ℕ) (gs : List WireField) → length r ≤ n → fields_within n a r ≡ Ok gs → SpellFrom a gs r) → SpellFrom at fs bs
spelled_more n at bs None fs is le e ih = cc
spelled_more n at bs (Some x) fs is le e ih =
    let field : FieldPrefix x.0.0 x.0.1 x.1 bs = field-spelled x.0.0 x.0.1 bs x.1 is in
    let some = field-some x.0.0 x.0.1 field.first field.spelled in
    let len = ap length field.split ∙ length-append field.first x.1 in
    let place = after_first at bs field.first x.1 field.split in
    let o = prefix_ok (field_of at x) (fields_within n (at + (length bs - length x.1)) x.1) fs e in
    let others : SpellFrom (at + length field.first) o.0 x.1 = subst (λ k. SpellFrom k o.0 x.1) place (ih (at + (length bs - length x.1)) x.1 o.0 (omega arith) o.1) in
    subst (λ (l : List WireField). SpellFrom at l bs) (sym o.2) (field.first, x.1, field.split, refl, field.spelled, others)

pub fields-spelled : (n at : ℕ) (bs : List ℕ) (fs : List WireField) → length bs ≤ n → fields_within n at bs ≡ Ok fs → SpellFrom at fs bs
unfolding fields_within
fields-spelled n at [] fs le e = let none : [] ≡ fs = cc in subst (λ (l : List WireField). SpellFrom at l []) none refl
fields-spelled zero at (b ∷ bs) fs le e = absurd (omega arith)
fields-spelled (suc n) at (b ∷ bs) fs le e =
    spelled_more n at (b ∷ bs) (field_at (b ∷ bs)) fs refl (omega arith) e (λ a r gs lr er. fields-spelled n a r gs lr er)

-- where nothing is read: the longest list that the bytes begin with
record Stuck (at p : ℕ) (bs : List ℕ) : Type 0 where
  fs : List WireField
  prefix : List ℕ
  rest : List ℕ
  split : bs ≡ prefix ++ rest
  spelled : SpellFrom at fs prefix
  place : at + length prefix ≡ p
  most : (gs : List WireField) (other after : List ℕ) → bs ≡ other ++ after → SpellFrom at gs other → length gs ≤ length fs

-- a list of fields that the bytes begin with begins with the field that is read
begins : (at : ℕ) (g : WireField) (gs : List WireField) (bs other after : List ℕ) → bs ≡ other ++ after → SpellFrom at (g ∷ gs) other
    → (others : List ℕ) × (field_at bs ≡ Some ((g.number, g.payload), others ++ after)) × SpellFrom (at + (length bs - length (others ++ after))) gs others
begins at g gs bs other after e (first, rest, split, place, field, others) =
    let all : bs ≡ first ++ (rest ++ after) = e ∙ (ap (λ (l : List ℕ). l ++ after) split ∙ append_assoc first rest after) in (
      rest,
      ap field_at all ∙ field-reads g.number g.payload first (rest ++ after) field,
      subst (λ k. SpellFrom k gs rest) (sym (after_first at bs first (rest ++ after) all)) others,
    )

none_longer : (at : ℕ) (bs : List ℕ) → field_at bs ≡ None → (gs : List WireField) (other after : List ℕ) → bs ≡ other ++ after → SpellFrom at gs other → length gs ≤ 0
none_longer at bs is [] other after e h = omega arith
none_longer at bs is (g ∷ gs) other after e h = let b = begins at g gs bs other after e h in let f = b.1 in cc

one_longer : (at m : ℕ) (bs : List ℕ) (x : (ℕ × Payload) × List ℕ) → field_at bs ≡ Some x
    → ((gs : List WireField) (other after : List ℕ) → x.1 ≡ other ++ after → SpellFrom (at + (length bs - length x.1)) gs other → length gs ≤ m)
    → (gs : List WireField) (other after : List ℕ) → bs ≡ other ++ after → SpellFrom at gs other → length gs ≤ m + 1
one_longer at m bs x is ih [] other after e h = omega arith
one_longer at m bs x is ih (g ∷ gs) other after e h =
    let b = begins at g gs bs other after e h in
    let rest : x.1 ≡ b.0 ++ after = (some_pair x.0 (g.number, g.payload) x.1 (b.0 ++ after) (sym is ∙ b.1)).1 in
    let le = ih gs b.0 after rest (subst (λ (l : List ℕ). SpellFrom (at + (length bs - length l)) gs b.0) (sym rest) b.2) in
    omega arith

stuck_more : (n at p : ℕ) (bs : List ℕ) (o : Option ((ℕ × Payload) × List ℕ)) → field_at bs ≡ o → length bs ≤ n + 1
    → before_others at bs o (λ a r. fields_within n a r) ≡ Err p
    → ((a : ℕ) (r : List ℕ) → length r ≤ n → fields_within n a r ≡ Err p → Stuck a p r) → Stuck at p bs
stuck_more n at p bs None is le e ih =
    let same : at ≡ p = cc in
    record { fs = []; prefix = []; rest = bs; split = refl; spelled = refl; place = omega arith; most = none_longer at bs is }
stuck_more n at p bs (Some x) is le e ih =
    let field : FieldPrefix x.0.0 x.0.1 x.1 bs = field-spelled x.0.0 x.0.1 bs x.1 is in
    let some = field-some x.0.0 x.0.1 field.first field.spelled in
    let len = ap length field.split ∙ length-append field.first x.1 in
    let place = after_first at bs field.first x.1 field.split in
    let inner : Stuck (at + (length bs - length x.1)) p x.1 = ih (at + (length bs - length x.1)) x.1 (omega arith) (prefix_err (field_of at x) (fields_within n (at + (length bs - length x.1)) x.1) p e) in
    let more = length-append field.first inner.prefix in
    record {
      fs = field_of at x ∷ inner.fs;
      prefix = field.first ++ inner.prefix;
      rest = inner.rest;
      split = regrouped field.first inner.prefix inner.rest x.1 bs field.split inner.split;
      spelled = (field.first, inner.prefix, refl, refl, field.spelled, subst (λ k. SpellFrom k inner.fs inner.prefix) place inner.spelled);
      place = omega (arith, inner.place);
      most = λ gs other after e' h. let le' = one_longer at (length inner.fs) bs x is inner.most gs other after e' h in omega arith;
    }

fields-stuck : (n at p : ℕ) (bs : List ℕ) → length bs ≤ n → fields_within n at bs ≡ Err p → Stuck at p bs
unfolding fields_within
fields-stuck n at p [] le e = cc
fields-stuck zero at p (b ∷ bs) le e = absurd (omega arith)
fields-stuck (suc n) at p (b ∷ bs) le e =
    stuck_more n at p (b ∷ bs) (field_at (b ∷ bs)) refl (omega arith) e (λ a r lr er. fields-stuck n a p r lr er)

all_read : (bs : List ℕ) (gs : List WireField) → Spell gs bs → fields bs ≡ Ok gs
unfolding fields
all_read bs gs h = fields-read (length bs) 0 gs bs h (omega arith)

pub all_spelled : (bs : List ℕ) (fs : List WireField) → fields bs ≡ Ok fs → Spell fs bs
unfolding fields
all_spelled bs fs e = fields-spelled (length bs) 0 bs fs (omega arith) e

all_stuck : (bs : List ℕ) (at : ℕ) → fields bs ≡ Err at → Stuck 0 at bs
unfolding fields
all_stuck bs at e = fields-stuck (length bs) 0 at bs (omega arith) e

one_list : (bs : List ℕ) (fs gs : List WireField) → fields bs ≡ Ok fs → Spell gs bs → gs ≡ fs
one_list bs fs gs e h = let same : Ok gs ≡ fields bs = sym (all_read bs gs h) in cc

no_list : (bs : List ℕ) (at : ℕ) (gs : List WireField) → fields bs ≡ Err at → Spell gs bs → ⊥
no_list bs at gs e h = let same : fields bs ≡ Ok gs = all_read bs gs h in cc

after_longest : (bs : List ℕ) (at : ℕ) → Stuck 0 at bs → IsAfterLongest at bs
after_longest bs at s = (
  s.fs,
  record { prefix = s.prefix; rest = s.rest; split = s.split; spelled = s.spelled; len = omega (arith, s.place) },
  λ gs n f. s.most gs f.prefix f.rest f.split f.spelled,
)

by_reading : (bs : List ℕ) (r : Result (List WireField) ℕ) → fields bs ≡ r
    → MatchResult r (λ fs. Spell fs bs × ((gs : List WireField) → Spell gs bs → gs ≡ fs)) (λ at. ((gs : List WireField) → ¬ (Spell gs bs)) × IsAfterLongest at bs)
by_reading bs (Ok fs) e = (all_spelled bs fs e, λ gs h. one_list bs fs gs e h)
by_reading bs (Err at) e = (λ gs h. no_list bs at gs e h, after_longest bs at (all_stuck bs at e))

pub reading_is_the_spelling : ReadingIsTheSpelling
reading_is_the_spelling bs = by_reading bs (fields bs) refl
