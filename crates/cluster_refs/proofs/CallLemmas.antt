-- Pins and holds by call, one change on.
use Rattle.std.proofs.Common.{◌≡◌, ◌∙◌, ◌≤◌, ◌<◌, ◌^◌, ℕ, ◌+◌, length, if◌then◌else◌, Bool, true, false, cond, List, [], ◌∷◌, refl, sym, ap, subst, arith, Option, Some, None}
use Rattle.std.specs.Prelude.{unwrap_or, sum_by, option_map, IsTrue, IsSome, ◌↔◌}
use Rattle.std.specs.BTreeMap.{insert_entry}
use Rattle.std.specs.Cmp.{IsTotalOrder}
use Rattle.std.specs.List.Sorted.{IsStrictlySortedBy}
use Rattle.std.specs.Map.{lookup, keys_of, values_of, remove_entry}
use Rattle.std.proofs.lemmas.Cmp.{nat_cmp_total, on_total}
use Rattle.std.proofs.lemmas.List.Sums.{sum_by-cons}
use Rattle.std.proofs.lemmas.Map.Entries.{sum_by-insert_entry, sum_by-remove_entry}
use Rattle.xc_base.specs.declared.names.CallId.{CallId}
use Rattle.cluster_refs.specs.declared.pins.Pin.{Pin}
use Rattle.cluster_refs.specs.ReferredNames.{Name, count_of, is_name, once, Raises, Lowers}
use Rattle.cluster_refs.specs.CallReferences.{References, call_cmp, is_call, pin_of, hold_of, SetsPin, SetsHold, AreNumbered, AreKept}

pub call_total : IsTotalOrder call_cmp
call_total = on_total (λ call. call.0) nat_cmp_total

values_inserted : {X : Type 0} (f : X → ℕ) (es : List (CallId × X)) (call : CallId) (v : X) → IsStrictlySortedBy call_cmp (keys_of es) → lookup (is_call call) es ≡ None →
    sum_by f (values_of (insert_entry call_cmp es call v)) ≡ sum_by f (values_of es) + f v
values_inserted f es call v ordered none =
    let e = sum_by-insert_entry f call_total es call v ordered in
    let z : unwrap_or (option_map f (lookup (is_call call) es)) 0 ≡ 0 = rw none refl in
    omega arith

values_removed : {X : Type 0} (f : X → ℕ) (es : List (CallId × X)) (call : CallId) (v : X) → lookup (is_call call) es ≡ Some v →
    sum_by f (values_of (remove_entry (is_call call) es)) + f v ≡ sum_by f (values_of es)
values_removed f es call v some =
    let e = sum_by-remove_entry f (is_call call) es in
    let z : unwrap_or (option_map f (lookup (is_call call) es)) 0 ≡ f v = rw some refl in
    omega arith

-- ---- pins

-- two values that one look-up gives are one
same_found : (found : Option Pin) (pin next : Pin) → found ≡ Some pin → found ≡ Some next → pin ≡ next
same_found None pin next is also = cc
same_found (Some found) pin next is also = cc

pinned_at : (b d : Bool) (pin one other : Pin) (old_one old_other first_after second_after : Option Pin) → first_after ≡ cond b (Some pin) old_one → second_after ≡ cond d (Some pin) old_other →
    ((p : Pin) → old_one ≡ Some p → p.number ≡ pin.number → p.names ≡ pin.names) → ((p : Pin) → old_other ≡ Some p → p.number ≡ pin.number → p.names ≡ pin.names) →
    ((p q : Pin) → old_one ≡ Some p → old_other ≡ Some q → p.number ≡ q.number → p.names ≡ q.names) →
    first_after ≡ Some one → second_after ≡ Some other → one.number ≡ other.number → one.names ≡ other.names
pinned_at true true pin one other old_one old_other first_after second_after is also like_one like_other alike found found_other same =
    let e = same_found first_after pin one is found in
    let f = same_found second_after pin other also found_other in
    sym (ap (λ p. p.names) e) ∙ ap (λ p. p.names) f
pinned_at true false pin one other old_one old_other first_after second_after is also like_one like_other alike found found_other same =
    let e = same_found first_after pin one is found in
    sym (ap (λ p. p.names) e) ∙ sym (like_other other (sym also ∙ found_other) (sym same ∙ sym (ap (λ p. p.number) e)))
pinned_at false true pin one other old_one old_other first_after second_after is also like_one like_other alike found found_other same =
    let f = same_found second_after pin other also found_other in
    like_one one (sym is ∙ found) (same ∙ sym (ap (λ p. p.number) f)) ∙ ap (λ p. p.names) f
pinned_at false false pin one other old_one old_other first_after second_after is also like_one like_other alike found found_other same =
    alike one other (sym is ∙ found) (sym also ∙ found_other) same

-- a pin of a list that is equal to the pinned ones of its number
numbered_pin : (pins new_pins : List (CallId × Pin)) (call : CallId) (pin : Pin) → AreNumbered pins →
    ((other : CallId) (p : Pin) → lookup (is_call other) pins ≡ Some p → p.number ≡ pin.number → p.names ≡ pin.names) →
    ((other : CallId) → lookup (is_call other) new_pins ≡ cond (is_call call other) (Some pin) (lookup (is_call other) pins)) → AreNumbered new_pins
numbered_pin pins new_pins call pin numbered like change one other p q found found_other same =
    pinned_at (is_call call one) (is_call call other) pin p q (lookup (is_call one) pins) (lookup (is_call other) pins) (lookup (is_call one) new_pins) (lookup (is_call other) new_pins)
    (change one) (change other) (like one) (like other) (numbered one other) found found_other same

pub kept_pin : (pins new_pins : List (CallId × Pin)) (holds : List (CallId × Name)) (counts : List (Name × ℕ)) (call : CallId) (pin : Pin) → AreKept pins holds counts →
    ((other : CallId) (p : Pin) → lookup (is_call other) pins ≡ Some p → p.number ≡ pin.number → p.names ≡ pin.names) → IsStrictlySortedBy call_cmp (keys_of new_pins) →
    ((other : CallId) → lookup (is_call other) new_pins ≡ cond (is_call call other) (Some pin) (lookup (is_call other) pins)) → AreKept new_pins holds counts
kept_pin pins new_pins holds counts call pin kept like ordered change = record {
  pins_ordered = ordered;
  holds_ordered = kept.holds_ordered;
  numbered = numbered_pin pins new_pins call pin kept.numbered like change;
  counted = kept.counted;
}

left_at : (b : Bool) (old new : Option Pin) (pin : Pin) → new ≡ cond b None old → new ≡ Some pin → old ≡ Some pin
left_at true old new pin is found = cc
left_at false old new pin is found = sym is ∙ found

pub kept_unpin : (pins new_pins : List (CallId × Pin)) (holds : List (CallId × Name)) (counts : List (Name × ℕ)) (call : CallId) → AreKept pins holds counts → IsStrictlySortedBy call_cmp (keys_of new_pins) →
    ((other : CallId) → lookup (is_call other) new_pins ≡ cond (is_call call other) None (lookup (is_call other) pins)) → AreKept new_pins holds counts
kept_unpin pins new_pins holds counts call kept ordered change = record {
  pins_ordered = ordered;
  holds_ordered = kept.holds_ordered;
  numbered = λ one other p q found found_other same. kept.numbered one other p q (left_at (is_call call one) _ _ p (change one) found) (left_at (is_call call other) _ _ q (change other) found_other) same;
  counted = kept.counted;
}

-- ---- holds

once_at_most : (b : Bool) → (if b then 1 else 0) ≤ 1
once_at_most true = omega arith
once_at_most false = omega arith

held_at_most : (name : Name) (holds : List (CallId × Name)) → sum_by (once name) (values_of holds) ≤ length holds
held_at_most name [] = omega arith
held_at_most name (hold ∷ holds) =
    let first = once_at_most (is_name hold.1 name) in
    let rest = held_at_most name holds in
    let sum = sum_by-cons (once name) hold.1 (values_of holds) in
    omega (arith, first, rest, sum)

-- a name is counted no more often than there are calls that hold one
pub few_held : (pins : List (CallId × Pin)) (holds : List (CallId × Name)) (counts : List (Name × ℕ)) (name : Name) → AreKept pins holds counts → length holds < 2 ^ 63 → count_of counts name < 2 ^ 63
few_held pins holds counts name kept few =
    let counted = kept.counted name in
    let most = held_at_most name holds in
    omega (arith, counted, most, few)

pub kept_hold : (pins : List (CallId × Pin)) (holds new_holds : List (CallId × Name)) (counts new_counts : List (Name × ℕ)) (call : CallId) (held : Name) →
    AreKept pins holds counts → lookup (is_call call) holds ≡ None → new_holds ≡ insert_entry call_cmp holds call held → IsStrictlySortedBy call_cmp (keys_of new_holds) →
    Raises counts new_counts (held ∷ []) → AreKept pins new_holds new_counts
kept_hold pins holds new_holds counts new_counts call held kept none is ordered raises = record {
  pins_ordered = kept.pins_ordered;
  holds_ordered = ordered;
  numbered = kept.numbered;
  counted = λ name.
      let e = values_inserted (once name) holds call held kept.holds_ordered none in
      let s : sum_by (once name) (values_of new_holds) ≡ sum_by (once name) (values_of holds) + once name held = rw is e in
      let r = raises name in
      let k = kept.counted name in
      omega arith;
}

pub kept_release : (pins : List (CallId × Pin)) (holds new_holds : List (CallId × Name)) (counts new_counts : List (Name × ℕ)) (call : CallId) (held : Name) →
    AreKept pins holds counts → lookup (is_call call) holds ≡ Some held → new_holds ≡ remove_entry (is_call call) holds → IsStrictlySortedBy call_cmp (keys_of new_holds) →
    Lowers counts new_counts (held ∷ []) → AreKept pins new_holds new_counts
kept_release pins holds new_holds counts new_counts call held kept some is ordered lowers = record {
  pins_ordered = kept.pins_ordered;
  holds_ordered = ordered;
  numbered = kept.numbered;
  counted = λ name.
      let e = values_removed (once name) holds call held some in
      let s : sum_by (once name) (values_of new_holds) + once name held ≡ sum_by (once name) (values_of holds) = rw is e in
      let r = lowers name in
      let k = kept.counted name in
      omega arith;
}

pub sets_pin : (before old : References) (new_pins : List (CallId × Pin)) (call : CallId) (made pin : Option Pin) → before ≡ old → made ≡ pin →
    ((other : CallId) → lookup (is_call other) new_pins ≡ cond (is_call call other) made (pin_of before other)) →
    SetsPin old (record { pins = new_pins; holds = before.holds }) call pin
sets_pin before old new_pins call made pin is made_is change =
    subst (λ refs. SetsPin refs (record { pins = new_pins; holds = before.holds }) call pin) is (record { pins = λ other. rw (← made_is) (change other); holds = refl })

pub sets_hold : (before old : References) (new_holds : List (CallId × Name)) (call : CallId) (made hold : Option Name) → before ≡ old → made ≡ hold →
    ((other : CallId) → lookup (is_call other) new_holds ≡ cond (is_call call other) made (hold_of before other)) →
    SetsHold old (record { pins = before.pins; holds = new_holds }) call hold
sets_hold before old new_holds call made hold is made_is change =
    subst (λ refs. SetsHold refs (record { pins = before.pins; holds = new_holds }) call hold) is (record { holds = λ other. rw (← made_is) (change other); pins = refl })

-- false exactly where there is none
pub had_none : {X : Type 0} (found : Option X) → None ≡ found → IsTrue false ↔ IsSome found
had_none None is = (λ false_is. cc, λ some. cc)
had_none (Some x) is = (λ false_is. cc, λ some. cc)
