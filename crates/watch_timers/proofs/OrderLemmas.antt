-- The timers in the order of their starts, with one more and with one less.
use Rattle.std.proofs.Common.{◌≡◌, ℕ, Bool, true, false, cond, refl, sym, ap, ◌∙◌, subst, Option, Some, None, Ordering}
use Rattle.std.specs.Prelude.{◌↔◌}
use Rattle.std.specs.Ordering.{nat_cmp, is_eq, ordering_then}
use Rattle.std.specs.BTreeSet.{BTreeSet, contains}
use Rattle.std.proofs.lemmas.Cmp.{eq_by_cmp_equiv}
use Rattle.std.proofs.lemmas.Map.Lookups.{CmpEqualImpliesEq, exact_unsigned}
use Rattle.std.proofs.lemmas.Map.Views.{btree_set_contains_iff}
use Rattle.xc_base.specs.declared.names.Key.{Key}
use Rattle.xc_base.specs.declared.names.Time.{Time}
use Rattle.xc_keys.specs.Keys.{key_cmp, is_key}
use Rattle.xc_keys.proofs.KeyLemmas.{exact_keys, same_key, key_itself, both_equal, equal_from_is_eq, order_of, derived_is}
use Rattle.watch_timers.specs.contracts.timers.StartedOrd.TheImpl.Laws.{total-law}
use Rattle.watch_timers.specs.declared.timers.Started.{Started}
use Rattle.watch_timers.specs.StartOrder.{IsOrderOf}
use Rattle.watch_timers.specs.Timers.{Running, started_at, started_cmp}

-- ---- the order of starts

exact_started : CmpEqualImpliesEq started_cmp
exact_started one other is =
    let (times, keys) = both_equal (nat_cmp one.at.0 other.at.0) (key_cmp one.key other.key) is in
    let make : ℕ → Key → Started = λ n key. record { at = record { 0 = n }; key = key } in
    ap (λ n. make n one.key) (exact_unsigned one.at.0 other.at.0 times) ∙ ap (λ key. make other.at.0 key) (exact_keys one.key other.key keys)

-- the order that the type's own comparison has
abbrev pub derived_order : Started → Started → Ordering
derived_order = order_of total-law

pub order_is : (one other : Started) → derived_order one other ≡ started_cmp one other
order_is one other = ap (λ o. ordering_then (nat_cmp one.at.0 other.at.0) o) (derived_is one.key other.key)

exact_order : CmpEqualImpliesEq derived_order
exact_order one other is = exact_started one other (sym (order_is one other) ∙ is)

-- the key's timer since then
abbrev pub timer : Key → Time → Started
timer key at = record { at = at; key = key }

-- whether the order doesn't tell two timers apart
abbrev pub alike : Started → Started → Bool
alike one other = is_eq (derived_order one other)

-- the key of a timer that isn't told apart is the same, and so is its start
told_one : (key other : Key) (at time : Time) → alike (timer key at) (timer other time) ≡ true → (is_key key other ≡ true) × (at ≡ time)
told_one key other at time is =
    let same : timer key at ≡ timer other time = exact_order (timer key at) (timer other time) (equal_from_is_eq (derived_order (timer key at) (timer other time)) is) in (
      subst (λ k. is_key key k ≡ true) (ap (λ (s : Started). s.key) same) (key_itself key),
      ap (λ (s : Started). s.at) same,
    )

one_told : (key other : Key) (at time : Time) → is_key key other ≡ true → at ≡ time → alike (timer key at) (timer other time) ≡ true
one_told key other at time is same =
    subst (λ k. alike (timer key at) (timer k time) ≡ true) (same_key key other is)
    (subst (λ t. alike (timer key at) (timer key t) ≡ true) same ((eq_by_cmp_equiv total-law).refl (timer key at)))

-- ---- the order as a set

-- the set has a timer exactly where it runs since then
abbrev IsHeld : BTreeSet Started → Running → Type 0
IsHeld order timers = (key : Key) (at : Time) → (contains derived_order order (timer key at) ≡ true) ↔ (started_at timers key ≡ Some at)

held : (order : BTreeSet Started) (timers : Running) → IsOrderOf order.keys timers → IsHeld order timers
held order timers same key at =
    let has = btree_set_contains_iff total-law exact_order order (timer key at) in
    (λ is. (same key at).0 (has.0 is), λ is. has.1 ((same key at).1 is))

listed : (order : BTreeSet Started) (timers : Running) → IsHeld order timers → IsOrderOf order.keys timers
listed order timers same key at =
    let has = btree_set_contains_iff total-law exact_order order (timer key at) in
    (λ is. (same key at).0 (has.1 is), λ is. has.0 ((same key at).1 is))

-- a change at a copy of a key is one at the key
pub of_copy : (b : Bool) (old new : BTreeSet Started) (made key : Key) (at : Time) → made ≡ key →
    ((started : Started) → contains derived_order new started ≡ cond (alike (timer made at) started) b (contains derived_order old started)) →
    (started : Started) → contains derived_order new started ≡ cond (alike (timer key at) started) b (contains derived_order old started)
of_copy b old new made key at same change started = subst (λ k. contains derived_order new started ≡ cond (alike (timer k at) started) b (contains derived_order old started)) same (change started)

-- ---- one timer more

some_same : {X : Type 0} (x y : X) → Some x ≡ Some y → x ≡ y
some_same x y is = cc

at_more : (a b was has : Bool) (old new : Option Time) (at time : Time) → has ≡ cond b true was → new ≡ cond a (Some at) old → (was ≡ true) ↔ (old ≡ Some time) →
    (a ≡ true → old ≡ None) → (b ≡ true → (a ≡ true) × (at ≡ time)) → (a ≡ true → at ≡ time → b ≡ true) → (has ≡ true) ↔ (new ≡ Some time)
at_more true true was has old new at time put starts same none told one = (λ _. starts ∙ ap (λ t. Some t) (told refl).1, λ _. put)
at_more true false was has old new at time put starts same none told one = (
  λ holds. let runs = same.0 (sym put ∙ holds) in let never = none refl in cc,
  λ runs. let never = one refl (some_same at time (sym starts ∙ runs)) in cc,
)
at_more false true was has old new at time put starts same none told one = let never = (told refl).0 in absurd (cc)
at_more false false was has old new at time put starts same none told one = (λ holds. starts ∙ same.0 (sym put ∙ holds), λ runs. put ∙ same.1 (sym starts ∙ runs))

pub with_one : (order more : BTreeSet Started) (timers new : Running) (key : Key) (at : Time) → started_at timers key ≡ None →
    ((started : Started) → contains derived_order more started ≡ cond (alike (timer key at) started) true (contains derived_order order started)) →
    ((other : Key) → started_at new other ≡ cond (is_key key other) (Some at) (started_at timers other)) → IsOrderOf order.keys timers → IsOrderOf more.keys new
with_one order more timers new key at none put starts same =
    listed more new (λ other time.
    at_more (is_key key other) (alike (timer key at) (timer other time)) (contains derived_order order (timer other time)) (contains derived_order more (timer other time))
    (started_at timers other) (started_at new other) at time (put (timer other time)) (starts other) (held order timers same other time)
    (λ is. ap (λ k. started_at timers k) (sym (same_key key other is)) ∙ none) (told_one key other at time) (one_told key other at time))

-- ---- one timer less

at_less : (a b was has : Bool) (old new : Option Time) (at time : Time) → has ≡ cond b false was → new ≡ cond a None old → (was ≡ true) ↔ (old ≡ Some time) →
    (a ≡ true → old ≡ Some at) → (b ≡ true → (a ≡ true) × (at ≡ time)) → (a ≡ true → at ≡ time → b ≡ true) → (has ≡ true) ↔ (new ≡ Some time)
at_less true true was has old new at time cut stops same runs told one = (λ holds. cc, λ some. cc)
at_less true false was has old new at time cut stops same runs told one = (
  λ holds. let never = one refl (some_same at time (sym (runs refl) ∙ same.0 (sym cut ∙ holds))) in cc,
  λ some. cc,
)
at_less false true was has old new at time cut stops same runs told one = let never = (told refl).0 in absurd (cc)
at_less false false was has old new at time cut stops same runs told one = (λ holds. stops ∙ same.0 (sym cut ∙ holds), λ some. cut ∙ same.1 (sym stops ∙ some))

pub without_one : (order less : BTreeSet Started) (timers new : Running) (key : Key) (at : Time) → started_at timers key ≡ Some at →
    ((started : Started) → contains derived_order less started ≡ cond (alike (timer key at) started) false (contains derived_order order started)) →
    ((other : Key) → started_at new other ≡ cond (is_key key other) None (started_at timers other)) → IsOrderOf order.keys timers → IsOrderOf less.keys new
without_one order less timers new key at runs cut stops same =
    listed less new (λ other time.
    at_less (is_key key other) (alike (timer key at) (timer other time)) (contains derived_order order (timer other time)) (contains derived_order less (timer other time))
    (started_at timers other) (started_at new other) at time (cut (timer other time)) (stops other) (held order timers same other time)
    (λ is. ap (λ k. started_at timers k) (sym (same_key key other is)) ∙ runs) (told_one key other at time) (one_told key other at time))

-- ---- a timer that was put in and taken out again

not_held : (b : Bool) (order : BTreeSet Started) (timers : Running) (key : Key) (at : Time) → contains derived_order order (timer key at) ≡ b → started_at timers key ≡ None → IsHeld order timers →
    contains derived_order order (timer key at) ≡ false
not_held true order timers key at is none same = let runs = (same key at).0 is in cc
not_held false order timers key at is none same = is

at_undone : (b was more less : Bool) → more ≡ cond b true was → less ≡ cond b false more → (b ≡ true → was ≡ false) → less ≡ was
at_undone true was more less put cut none = cut ∙ sym (none refl)
at_undone false was more less put cut none = cut ∙ put

pub undone : (order more less : BTreeSet Started) (timers : Running) (key : Key) (at : Time) → started_at timers key ≡ None →
    ((started : Started) → contains derived_order more started ≡ cond (alike (timer key at) started) true (contains derived_order order started)) →
    ((started : Started) → contains derived_order less started ≡ cond (alike (timer key at) started) false (contains derived_order more started)) →
    IsOrderOf order.keys timers → IsOrderOf less.keys timers
undone order more less timers key at none put cut same =
    let was = held order timers same in
    let none_held = not_held (contains derived_order order (timer key at)) order timers key at refl none was in
    let as_was : (started : Started) → contains derived_order less started ≡ contains derived_order order started =
    λ started.
    at_undone (alike (timer key at) started) (contains derived_order order started) (contains derived_order more started) (contains derived_order less started) (put started) (cut started)
    (λ is. subst (λ s. contains derived_order order s ≡ false) (exact_order (timer key at) started (equal_from_is_eq (derived_order (timer key at) started) is)) none_held) in
    listed less timers (λ other time. (λ has. (was other time).0 (sym (as_was (timer other time)) ∙ has), λ runs. as_was (timer other time) ∙ (was other time).1 runs))
