-- The names with a count are those with a pin or a hold.
use Rattle.std.proofs.Common.{◌≡◌, ◌<◌, ℕ, Bool, true, false, cond, List, [], refl, sym, ap, subst, ◌∙◌, arith, inl, inr, ⊎_elim, Some}
use Rattle.std.specs.Prelude.{◌↔◌, Contains, sum_by}
use Rattle.std.specs.Cmp.{IsEquivalence}
use Rattle.std.specs.List.Sorted.{IsStrictlySortedBy}
use Rattle.std.specs.Map.{lookup, keys_of, values_of}
use Rattle.std.proofs.lemmas.Cmp.{eq_by_cmp_equiv}
use Rattle.std.proofs.lemmas.Map.Keys.{IsDistinct-from_sorted}
use Rattle.std.proofs.lemmas.Map.Lookups.{exact_unsigned}
use Rattle.std.proofs.lemmas.Map.Made.{Contains-values_of, Contains-from_values_of}
use Rattle.std.proofs.lemmas.Map.Views.{Contains-from_lookup, lookup-from_Contains}
use Rattle.xc_base.specs.declared.names.CallId.{CallId}
use Rattle.cluster_refs.specs.declared.pins.Pin.{Pin}
use Rattle.cluster_refs.specs.ReferredNames.{Name, name_cmp, is_name, once, count_of}
use Rattle.cluster_refs.specs.PinnedNames.{put_in, put_pins}
use Rattle.cluster_refs.specs.CallReferences.{References, call_cmp, is_call, IsPinned, IsHeld, AreNumbered, AreRetained, AreKept}
use Rattle.cluster_refs.proofs.CallLemmas.{call_total}
use Rattle.cluster_refs.proofs.NameLemmas.{same_name, equal_from_is_eq, is_name_equiv}
use Rattle.cluster_refs.proofs.ListLemmas.{sum_has, part-le-sum_by}
use Rattle.cluster_refs.proofs.PinLemmas.{put, from_put_none, from_pins, pins_have, pins_keep, none_seen}

is_call_equiv : IsEquivalence is_call
is_call_equiv = eq_by_cmp_equiv call_total

-- calls with the same number are one
same_call : (call other : CallId) → is_call call other ≡ true → call ≡ other
same_call call other is =
    let number = exact_unsigned call.0 other.0 (equal_from_is_eq (call_cmp call other) is) in
    let make : ℕ → CallId = λ n. record { 0 = n } in
    ap make number

-- an entry of a list in order is what its key finds
found : {X : Type 0} (es : List (CallId × X)) (v : X) → IsStrictlySortedBy call_cmp (keys_of es) → Contains (values_of es) v → (call : CallId) × (lookup (is_call call) es ≡ Some v)
found es v ordered has =
    let entry = Contains-from_values_of es v has in
    (entry.0, lookup-from_Contains is_call_equiv entry.0 v es (IsDistinct-from_sorted call_cmp (keys_of es) ordered) entry.1)

listed : {X : Type 0} (es : List (CallId × X)) (call : CallId) (v : X) → lookup (is_call call) es ≡ Some v → Contains (values_of es) v
listed es call v is = Contains-values_of es call v (Contains-from_lookup same_call call v es is)

once_at : (b : Bool) → 0 < cond b 1 0 → b ≡ true
once_at true less = refl
once_at false less = absurd (omega arith)

once_same : (name other : Name) → 0 < once name other → other ≡ name
once_same name other less = same_name other name (once_at (is_name other name) less)

once_self : (name : Name) → 0 < once name name
once_self name = rw (is_name_equiv.refl name) (omega arith)

holds_have : (pins : List (CallId × Pin)) (holds : List (CallId × Name)) (name : Name) → IsStrictlySortedBy call_cmp (keys_of holds) →
    0 < sum_by (once name) (values_of holds) → IsHeld (record { pins = pins; holds = holds }) name
holds_have pins holds name ordered less =
    let some = sum_has (once name) (values_of holds) less in
    let at = found holds some.0 ordered some.1 in
    (at.0, at.1 ∙ ap (λ n. Some n) (once_same name some.0 some.2))

held_used : (refs : References) (name : Name) → IsHeld refs name → 0 < sum_by (once name) (values_of refs.holds)
held_used refs name (call, is) =
    let le = part-le-sum_by (once name) (values_of refs.holds) name (listed refs.holds call name is) in
    let some = once_self name in
    omega arith

-- a name is held where it is counted
pub held_counted : (before refs : References) (counts : List (Name × ℕ)) (name : Name) → before ≡ refs → AreKept before.pins before.holds counts → (0 < count_of counts name) ↔ IsHeld refs name
held_counted before refs counts name is kept = subst (λ r. (0 < count_of counts name) ↔ IsHeld r name) is (
  λ less. holds_have before.pins before.holds name kept.holds_ordered (subst (λ n. 0 < n) (kept.counted name) less),
  λ held. subst (λ n. 0 < n) (sym (kept.counted name)) (held_used before name held),
)

-- what is put in of the pins of a list are the names of its pins
pin_has : (refs : References) (name : Name) → IsStrictlySortedBy call_cmp (keys_of refs.pins) → (pin : Pin) → Contains (values_of refs.pins) pin → Contains pin.names name → IsPinned refs name
pin_has refs name ordered pin has own = let at = found refs.pins pin ordered has in (at.0, pin, at.1, own)

-- pinned lists of one number are equal, by the list of pins
alike : (pins : List (CallId × Pin)) → IsStrictlySortedBy call_cmp (keys_of pins) → AreNumbered pins → (pin next : Pin) → Contains (values_of pins) pin → Contains (values_of pins) next → pin.number ≡ next.number → pin.names ≡ next.names
alike pins ordered numbered pin next has has_next same =
    let at = found pins pin ordered has in
    let also = found pins next ordered has_next in
    numbered at.0 also.0 pin next at.1 also.1 same

pub retained : (before refs : References) (counts : List (Name × ℕ)) (held keys names : List Name) → before ≡ refs → AreKept before.pins before.holds counts →
    ((name : Name) → Contains held name ↔ (0 < count_of counts name)) → keys ≡ put_pins (put_in [] held) [] (values_of before.pins) → names ≡ keys → IsStrictlySortedBy name_cmp names → AreRetained refs names
retained before refs counts held keys names is kept counted keys_are names_are rising = subst (λ r. AreRetained r names) is (record {
  rising = rising;
  members = λ name. (
    λ has.
        ⊎_elim
        (λ old. let own = from_put_none held name old in inr (holds_have before.pins before.holds name kept.holds_ordered (subst (λ n. 0 < n) (kept.counted name) ((counted name).0 own))))
        (λ of_pin. inl (pin_has before name kept.pins_ordered of_pin.0 of_pin.1 of_pin.2))
        (from_pins (put_in [] held) [] (values_of before.pins) name (subst (λ ks. Contains ks name) (names_are ∙ keys_are) has)),
    λ some. subst (λ ks. Contains ks name) (sym (names_are ∙ keys_are)) (
        ⊎_elim
        (λ (call, pin, found_pin, own). pins_have (values_of before.pins) (alike before.pins kept.pins_ordered kept.numbered) (put_in [] held) [] (values_of before.pins) (λ p has. has) (λ p has seen z own. absurd (none_seen p.number seen)) pin name (listed before.pins call pin found_pin) own)
        (λ hold. pins_keep (put_in [] held) [] (values_of before.pins) name (put [] held name ((counted name).1 (subst (λ n. 0 < n) (sym (kept.counted name)) (held_used before name hold)))))
        some),
  );
})

no_pin : (pins : List (CallId × Pin)) (call : CallId) (pin : Pin) → pins ≡ [] → lookup (is_call call) pins ≡ Some pin → ⊥
no_pin pins call pin none found = let never = sym (ap (lookup (is_call call)) none) ∙ found in cc

-- where no pin is open, what is retained is what calls hold
pub held_retained : (before refs : References) (counts : List (Name × ℕ)) (names : List Name) → before ≡ refs → AreKept before.pins before.holds counts → before.pins ≡ [] →
    ((name : Name) → Contains names name ↔ (0 < count_of counts name)) → IsStrictlySortedBy name_cmp names → AreRetained refs names
held_retained before refs counts names is kept none counted rising = subst (λ r. AreRetained r names) is (record {
  rising = rising;
  members = λ name.
      let held = held_counted before before counts name refl kept in (
        λ has. inr (held.0 ((counted name).0 has)),
        λ some. ⊎_elim (λ (call, pin, found, own). absurd (no_pin before.pins call pin none found)) (λ hold. (counted name).1 (held.1 hold)) some,
      );
})
