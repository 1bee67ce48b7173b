-- Ends that are added and taken out.
use Rattle.std.proofs.Common.{◌≡◌, ◌<◌, ◌≤◌, ◌⊎◌, ◌∙◌, ℕ, Bool, true, false, cond, Ordering, inl, inr, refl, ap, subst, arith}
use Rattle.std.specs.declared.cmp.Ordering.TheVariants.{Less, Equal, Greater}
use Rattle.std.specs.Ordering.{is_eq, is_gt, nat_cmp, ordering_then}
use Rattle.std.specs.BTreeSet.{BTreeSet, contains}
use Rattle.std.proofs.lemmas.Map.Keys.{le_from_not_gt}
use Rattle.std.proofs.lemmas.Map.Lookups.{exact_unsigned}
use Rattle.xc_base.specs.declared.names.Time.{Time}
use Rattle.tree_timers.specs.declared.timer_ends.TimerEnd.{TimerEnd}
use Rattle.tree_timers.specs.EndsKept.{Ends, HasEnd, HasPlace, IsDue, EachLeftOrTaken, KeepsPlaces, end_cmp}

-- ---- the order of ends

both_equal : (o p : Ordering) → is_eq (ordering_then o p) ≡ true → (o ≡ Equal) × (p ≡ Equal)
both_equal Less p is = cc
both_equal Equal Less is = cc
both_equal Equal Equal is = (refl, refl)
both_equal Equal Greater is = cc
both_equal Greater p is = cc

-- ends that the order doesn't tell apart are equal
one_end : (one other : TimerEnd) → is_eq (end_cmp one other) ≡ true → one ≡ other
one_end one other is =
    let (times, places) = both_equal (nat_cmp one.at.0 other.at.0) (nat_cmp one.place other.place) is in
    let make : ℕ → ℕ → TimerEnd = λ at place. record { at = record { 0 = at }; place = place } in
    ap (λ at. make at one.place) (exact_unsigned one.at.0 other.at.0 times) ∙ ap (λ place. make other.at.0 place) (exact_unsigned one.place other.place places)

not_above : (o p : Ordering) → is_gt (ordering_then o p) ≡ false → is_gt o ≡ false
not_above Less p is = refl
not_above Equal p is = refl
not_above Greater p is = is

-- where the first end hasn't come, none has
pub none_due : (first end : TimerEnd) (now : Time) → is_gt (end_cmp first end) ≡ false → now.0 < first.at.0 → IsDue now end → ⊥
none_due first end now least later due =
    let before : first.at.0 ≤ end.at.0 = le_from_not_gt first.at.0 end.at.0 (not_above (nat_cmp first.at.0 end.at.0) (nat_cmp first.place end.place) least) in
    omega (arith, before, later, due)

-- ---- a set with one member more

-- a set that gains a member keeps its others
pub still_there : (gained was is : Bool) → is ≡ cond gained true was → was ≡ true → is ≡ true
still_there true was is change there = change
still_there false was is change there = change ∙ there

-- the places with one more
pub more_places : (old places more : BTreeSet ℕ) (added : ℕ) → ((place : ℕ) → contains nat_cmp more place ≡ cond (is_eq (nat_cmp added place)) true (contains nat_cmp places place)) →
    KeepsPlaces old places → KeepsPlaces old more
more_places old places more added change keeps place there =
    still_there (is_eq (nat_cmp added place)) (contains nat_cmp places place) (contains nat_cmp more place) (change place) (keeps place there)

-- ---- an end is taken out, and its place added

left_or_taken : (taken_out : Bool) (ends left : Ends) (places : BTreeSet ℕ) (now : Time) (taken end : TimerEnd) → is_eq (end_cmp taken end) ≡ taken_out →
    IsDue now taken → HasPlace places taken.place → contains end_cmp left end ≡ cond taken_out false (contains end_cmp ends end) →
    HasEnd ends end → HasEnd left end ⊎ (IsDue now end × HasPlace places end.place)
left_or_taken true ends left places now taken end is due added change has =
    inr (subst (λ (e : TimerEnd). IsDue now e × HasPlace places e.place) (one_end taken end is) (due, added))
left_or_taken false ends left places now taken end is due added change has = inl (change ∙ has)

pub each_left_or_taken : (old ends left : Ends) (places more : BTreeSet ℕ) (now : Time) (taken : TimerEnd) → IsDue now taken → HasPlace more taken.place →
    ((end : TimerEnd) → contains end_cmp left end ≡ cond (is_eq (end_cmp taken end)) false (contains end_cmp ends end)) → KeepsPlaces places more →
    EachLeftOrTaken old ends places now → EachLeftOrTaken old left more now
each_left_or_taken old ends left places more now taken due added change keeps each end has = next (each end has)
  where
    next : HasEnd ends end ⊎ (IsDue now end × HasPlace places end.place) → HasEnd left end ⊎ (IsDue now end × HasPlace more end.place)
    next (inl still) = left_or_taken (is_eq (end_cmp taken end)) ends left more now taken end refl due added (change end) still
    next (inr (came, there)) = inr (came, keeps end.place there)

-- ---- what is left in the end

-- where none of those that are left has come, each that has come is taken
pub all_taken : (old left : Ends) (places : BTreeSet ℕ) (now : Time) → EachLeftOrTaken old left places now → ((end : TimerEnd) → HasEnd left end → IsDue now end → ⊥) →
    (end : TimerEnd) → HasEnd old end → IsDue now end → HasPlace places end.place
all_taken old left places now each none end has due = by (each end has)
  where
    by : HasEnd left end ⊎ (IsDue now end × HasPlace places end.place) → HasPlace places end.place
    by (inl still) = absurd (none end still due)
    by (inr (came, there)) = there

-- an end that hasn't come is left
pub later_left : (old left : Ends) (places : BTreeSet ℕ) (now : Time) → EachLeftOrTaken old left places now → (end : TimerEnd) → HasEnd old end → now.0 < end.at.0 → HasEnd left end
later_left old left places now each end has later = by (each end has)
  where
    by : HasEnd left end ⊎ (IsDue now end × HasPlace places end.place) → HasEnd left end
    by (inl still) = still
    by (inr (came, there)) = absurd (omega (arith, came, later))
