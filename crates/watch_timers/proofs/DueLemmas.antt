-- What is due, and what runs on.
use Rattle.std.proofs.Common.{◌≡◌, ◌≤◌, ◌+◌, ◌++◌, ℕ, Bool, true, false, cond, List, [], ◌∷◌, map, length, refl, sym, ap, ◌∙◌, subst, Option, Some, None, Ordering, arith, length-append, append_assoc}
use Rattle.std.specs.Prelude.{◌↔◌, Contains, filter, not, nat_le, slice_get}
use Rattle.std.specs.declared.cmp.Ordering.TheVariants.{Less, Equal, Greater}
use Rattle.std.specs.Ordering.{nat_cmp, is_gt, ordering_then}
use Rattle.std.specs.List.{AllByRecursion, prefix_len}
use Rattle.std.specs.List.Sorted.{IsStrictlySortedBy}
use Rattle.std.proofs.lemmas.Bool.Decides.{nat_tests}
use Rattle.std.proofs.lemmas.Map.Keys.{le_from_not_gt}
use Rattle.xc_base.specs.declared.names.Key.{Key}
use Rattle.xc_base.specs.declared.names.Time.{Time}
use Rattle.xc_keys.specs.Keys.{key_cmp}
use Rattle.xc_keys.proofs.MemberLemmas.{here, kept, from_kept, sorted_alike}
use Rattle.watch_timers.specs.declared.timers.Started.{Started}
use Rattle.watch_timers.specs.StartOrder.{IsOrderOf, first_due, after_due}
use Rattle.watch_timers.specs.Timers.{Running, started_at, has_run, runs_on, started_cmp, TakesDue}
use Rattle.watch_timers.proofs.OrderLemmas.{derived_order, order_is, timer}

-- whether a timer has run out
abbrev pub is_due : Time → Started → Bool
is_due now started = has_run now started.at

-- ---- the first that are due, one by one

-- where the first timer hasn't run out, none is taken
pub none_first : (now : Time) (order : List Started) (first : Started) → slice_get order 0 ≡ Some first → is_due now first ≡ false → first_due now order ≡ []
none_first now [] first is no_run = refl
none_first now (started ∷ order) first is no_run =
    let same : started ≡ first = cc in
    ap (λ b. cond b (started ∷ first_due now order) []) (subst (λ s. is_due now s ≡ false) (sym same) no_run)

pub first_goes : (now : Time) (order left : List Started) (first : Started) → order ≡ first ∷ left → is_due now first ≡ true → first_due now order ≡ first ∷ first_due now left
first_goes now order left first is run = ap (λ o. first_due now o) is ∙ ap (λ b. cond b (first ∷ first_due now left) []) run

pub after_goes : (now : Time) (order left : List Started) (first : Started) → order ≡ first ∷ left → is_due now first ≡ true → after_due now order ≡ after_due now left
after_goes now order left first is run = ap (λ o. after_due now o) is ∙ ap (λ b. cond b (after_due now left) (first ∷ left)) run

after_none_at : (b : Bool) (started : Started) (first after order : List Started) → cond b (started ∷ first) [] ≡ [] → cond b after (started ∷ order) ≡ started ∷ order
after_none_at true started first after order none = cc
after_none_at false started first after order none = refl

-- where none is taken, all are left
pub after_none : (now : Time) (order : List Started) → first_due now order ≡ [] → after_due now order ≡ order
after_none now [] none = refl
after_none now (started ∷ order) none = after_none_at (is_due now started) started (first_due now order) (after_due now order) order none

-- there is room for the keys of those that are left
pub room_left : (now : Time) (order left : List Started) (first : Started) (keys more : List Key) (room : ℕ) → first_due now order ≡ first ∷ first_due now left → more ≡ keys ++ first.key ∷ [] →
    length keys + length (first_due now order) ≤ room → length more + length (first_due now left) ≤ room
room_left now order left first keys more room goes is fits =
    let longer : length more ≡ length keys + 1 = ap (λ ks. length ks) is ∙ length-append keys (first.key ∷ []) in
    let fewer : length (first_due now order) ≡ 1 + length (first_due now left) = ap (λ ss. length ss) goes ∙ omega arith in
    omega (arith, longer, fewer, fits)

-- the keys so far and those that are still to come are all
pub keys_more : (now : Time) (order left : List Started) (first : Started) (keys more all : List Key) → first_due now order ≡ first ∷ first_due now left → more ≡ keys ++ first.key ∷ [] →
    keys ++ map (λ (s : Started). s.key) (first_due now order) ≡ all → more ++ map (λ (s : Started). s.key) (first_due now left) ≡ all
keys_more now order left first keys more all goes is whole =
    ap (λ ks. ks ++ map (λ (s : Started). s.key) (first_due now left)) is
    ∙ append_assoc keys (first.key ∷ []) (map (λ (s : Started). s.key) (first_due now left))
    ∙ ap (λ ss. keys ++ map (λ (s : Started). s.key) ss) (sym goes) ∙ whole

-- the first in the order runs since its start
pub first_runs : (order left : List Started) (timers : Running) (first : Started) → order ≡ first ∷ left → IsOrderOf order timers → started_at timers first.key ≡ Some first.at
first_runs order left timers first is same = (same first.key first.at).0 (subst (λ ss. Contains ss first) (sym is) (here first left))

counted_at : (b : Bool) (started : Started) (first : List Started) (count : ℕ) → length first ≡ count → length (cond b (started ∷ first) []) ≡ cond b (1 + count) 0
counted_at true started first count is = omega (arith, is)
counted_at false started first count is = refl

-- the first that are due are counted up to one that isn't
pub counted : (now : Time) (order : List Started) → length (first_due now order) ≡ prefix_len (is_due now) order
counted now [] = refl
counted now (started ∷ order) = counted_at (is_due now started) started (first_due now order) (prefix_len (is_due now) order) (counted now order)

-- ---- in order those that are due stand first

not_above : (o p : Ordering) → ordering_then o p ≡ Less → is_gt o ≡ false
not_above Less p is = refl
not_above Equal p is = refl
not_above Greater p is = cc

-- what was started later hasn't run out, where the earlier hasn't
still_runs : (now : Time) (one other : Started) → started_cmp one other ≡ Less → is_due now one ≡ false → is_due now other ≡ false
still_runs now one other is runs =
    let later : one.at.0 ≤ other.at.0 = le_from_not_gt one.at.0 other.at.0 (not_above (nat_cmp one.at.0 other.at.0) (key_cmp one.key other.key) is) in
    by one.at.0 other.at.0 now.0 later runs
  where
    by : (a b n : ℕ) → a ≤ b → nat_le (a + 15000) n ≡ false → nat_le (b + 15000) n ≡ false
    by a b n later runs = grind (arith, nat_tests)

none_due : (now : Time) (started : Started) (order : List Started) → AllByRecursion (λ other. started_cmp started other ≡ Less) order → is_due now started ≡ false → filter (is_due now) order ≡ []
none_due now started [] below runs = refl
none_due now started (other ∷ order) (first, below) runs = ap (λ b. cond b (other ∷ filter (is_due now) order) (filter (is_due now) order)) (still_runs now started other first runs) ∙ none_due now started order below runs

all_run : (now : Time) (started : Started) (order : List Started) → AllByRecursion (λ other. started_cmp started other ≡ Less) order → is_due now started ≡ false → filter (λ s. not (is_due now s)) order ≡ order
all_run now started [] below runs = refl
all_run now started (other ∷ order) (first, below) runs =
    ap (λ b. cond (not b) (other ∷ filter (λ s. not (is_due now s)) order) (filter (λ s. not (is_due now s)) order)) (still_runs now started other first runs)
    ∙ ap (λ ss. other ∷ ss) (all_run now started order below runs)

first_at : (b : Bool) (now : Time) (started : Started) (order : List Started) → is_due now started ≡ b → AllByRecursion (λ other. started_cmp started other ≡ Less) order →
    first_due now order ≡ filter (is_due now) order → cond b (started ∷ first_due now order) [] ≡ cond b (started ∷ filter (is_due now) order) (filter (is_due now) order)
first_at true now started order is below rest = ap (λ ss. started ∷ ss) rest
first_at false now started order is below rest = sym (none_due now started order below is)

first_are : (now : Time) (order : List Started) → IsStrictlySortedBy started_cmp order → first_due now order ≡ filter (is_due now) order
unfolding IsStrictlySortedBy
first_are now [] sorted = refl
first_are now (started ∷ order) (below, sorted) = first_at (is_due now started) now started order refl below (first_are now order sorted)

after_at : (b : Bool) (now : Time) (started : Started) (order : List Started) → is_due now started ≡ b → AllByRecursion (λ other. started_cmp started other ≡ Less) order →
    after_due now order ≡ filter (λ s. not (is_due now s)) order →
    cond b (after_due now order) (started ∷ order) ≡ cond (not b) (started ∷ filter (λ s. not (is_due now s)) order) (filter (λ s. not (is_due now s)) order)
after_at true now started order is below rest = rest
after_at false now started order is below rest = ap (λ ss. started ∷ ss) (sym (all_run now started order below is))

after_are : (now : Time) (order : List Started) → IsStrictlySortedBy started_cmp order → after_due now order ≡ filter (λ s. not (is_due now s)) order
unfolding IsStrictlySortedBy
after_are now [] sorted = refl
after_are now (started ∷ order) (below, sorted) = after_at (is_due now started) now started order refl below (after_are now order sorted)

all_first_at : (b : Bool) (P : Started → Type 0) (started : Started) (first : List Started) → P started → AllByRecursion P first → AllByRecursion P (cond b (started ∷ first) [])
all_first_at true P started first one all = (one, all)
all_first_at false P started first one all = tt

all_first : (P : Started → Type 0) (now : Time) (order : List Started) → AllByRecursion P order → AllByRecursion P (first_due now order)
all_first P now [] all = tt
all_first P now (started ∷ order) (one, all) = all_first_at (is_due now started) P started (first_due now order) one (all_first P now order all)

sorted_first_at : (b : Bool) (started : Started) (first : List Started) → AllByRecursion (λ other. started_cmp started other ≡ Less) first → IsStrictlySortedBy started_cmp first →
    IsStrictlySortedBy started_cmp (cond b (started ∷ first) [])
unfolding IsStrictlySortedBy
sorted_first_at true started first below sorted = (below, sorted)
sorted_first_at false started first below sorted = tt

sorted_first : (now : Time) (order : List Started) → IsStrictlySortedBy started_cmp order → IsStrictlySortedBy started_cmp (first_due now order)
unfolding IsStrictlySortedBy
sorted_first now [] sorted = tt
sorted_first now (started ∷ order) (below, sorted) =
    sorted_first_at (is_due now started) started (first_due now order) (all_first (λ other. started_cmp started other ≡ Less) now order below) (sorted_first now order sorted)

-- ---- what is taken out, and what runs on

taken : (now : Time) (order : List Started) (timers : Running) (key : Key) (at : Time) → IsStrictlySortedBy started_cmp order → IsOrderOf order timers →
    Contains (first_due now order) (timer key at) ↔ ((started_at timers key ≡ Some at) × (has_run now at ≡ true))
taken now order timers key at sorted same = (
  λ has. let (there, run) = from_kept (is_due now) order (timer key at) (subst (λ ss. Contains ss (timer key at)) (first_are now order sorted) has) in ((same key at).0 there, run),
  λ is. subst (λ ss. Contains ss (timer key at)) (sym (first_are now order sorted)) (kept (is_due now) order (timer key at) ((same key at).1 is.0) is.1),
)

not_true : (b : Bool) → not b ≡ true → b ≡ false
not_true true is = cc
not_true false is = refl

left : (now : Time) (order : List Started) (timers : Running) (key : Key) (at : Time) → IsStrictlySortedBy started_cmp order → IsOrderOf order timers →
    Contains (after_due now order) (timer key at) ↔ ((started_at timers key ≡ Some at) × (has_run now at ≡ false))
left now order timers key at sorted same = (
  λ has.
      let (there, runs) = from_kept (λ s. not (is_due now s)) order (timer key at) (subst (λ ss. Contains ss (timer key at)) (after_are now order sorted) has) in
      ((same key at).0 there, not_true (has_run now at) runs),
  λ is. subst (λ ss. Contains ss (timer key at)) (sym (after_are now order sorted)) (kept (λ s. not (is_due now s)) order (timer key at) ((same key at).1 is.0) (ap (λ b. not b) is.1)),
)

-- options that have the same values are equal
same_values : {X : Type 0} (o p : Option X) → ((x : X) → (o ≡ Some x) ↔ (p ≡ Some x)) → o ≡ p
same_values None None same = refl
same_values None (Some x) same = (same x).1 refl
same_values (Some x) None same = sym ((same x).0 refl)
same_values (Some x) (Some y) same = (same y).1 refl

runs_on_at : (b : Bool) (now at time : Time) → has_run now at ≡ b → (cond b None (Some at) ≡ Some time) ↔ ((Some at ≡ Some time) × (has_run now time ≡ false))
runs_on_at true now at time is = (
  λ some. absurd (cc),
  λ both. let same : at ≡ time = cc in let run = subst (λ t. has_run now t ≡ true) same is in let runs = both.1 in absurd (cc),
)
runs_on_at false now at time is = (λ some. let same : at ≡ time = cc in (some, subst (λ t. has_run now t ≡ false) same is), λ both. both.0)

runs_on_values : (now : Time) (o : Option Time) (time : Time) → (runs_on now o ≡ Some time) ↔ ((o ≡ Some time) × (has_run now time ≡ false))
runs_on_values now None time = (λ some. absurd (cc), λ both. both.0)
runs_on_values now (Some at) time = runs_on_at (has_run now at) now at time refl

pub takes_due : (order after : List Started) (timers new : Running) (now : Time) (keys : List Key) → IsStrictlySortedBy derived_order order → IsOrderOf order timers → IsOrderOf after new →
    keys ≡ map (λ started. started.key) (first_due now order) → after ≡ after_due now order → TakesDue timers now keys new
takes_due order after timers new now keys rises was is keys_are left_are =
    let sorted = sorted_alike derived_order started_cmp order_is order rises in record {
      starts = first_due now order;
      keys_are = keys_are;
      rising = sorted_first now order sorted;
      exact = λ key at. taken now order timers key at sorted was;
      others = λ key.
          same_values (started_at new key) (runs_on now (started_at timers key)) (λ at.
          let there = is key at in
          let stays = left now order timers key at sorted was in
          let runs = runs_on_values now (started_at timers key) at in (
            λ some. runs.1 (stays.0 (subst (λ ss. Contains ss (timer key at)) left_are (there.1 some))),
            λ some. there.0 (subst (λ ss. Contains ss (timer key at)) (sym left_are) (stays.1 (runs.0 some))),
          ));
    }
