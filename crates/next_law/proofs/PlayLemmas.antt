-- Of entries that play a list each is the next one, and all of them are all that is listed.
use Rattle.std.proofs.Common.{◌≡◌, ℕ, zero, suc, ◌+◌, List, [], ◌∷◌, ◌++◌, length, drop, true, false, Some, sym, ap, ◌∙◌, subst, arith}
use Rattle.std.specs.List.{slice_get}
use Rattle.call_journal.specs.declared.entry.Entry.{Entry}
use Rattle.call_journal.specs.declared.plan.Count.{Count}
use Rattle.call_journal.specs.declared.plan.Listed.{Listed}
use Rattle.legal_plan.specs.session_plan.PlayedEvents.{IsHold, IsOne, IsPin, Plays}
use Rattle.legal_plan.specs.session_plan.PlayedEvents as played
use Rattle.book_progress.specs.ActorCounts.{count_after}
use Rattle.book_progress.specs.PlayedPlans.{IsStep, step_in}
use Rattle.next_law.proofs.CountLemmas.{counted, hold_counts, hold_step, one_counts, one_step, pin_counts, pin_step}

abbrev pub count : ℕ → ℕ → Count
count ended pins = record { ended = ended; pins = pins }

-- an entry is the next one of an actor's list, where the actor has come so far
pub record IsNextIn (list : List Listed) (c : Count) (e : Entry) : Type 0 where
  pub listed : Listed
  pub get : slice_get list c.ended ≡ Some listed
  pub line : e.line ≡ listed.line
  pub step : IsStep (step_in e.what) listed.event c.pins

-- ---- what is left of a list

left_first : (list : List Listed) (n : ℕ) (next : Listed) (later : List Listed) → drop n list ≡ next ∷ later → slice_get list n ≡ Some next
left_first [] zero next later is = absurd (cc is)
left_first [] (suc n) next later is = absurd (cc is)
left_first (l ∷ ls) zero next later is = let same : l ≡ next = cc is in ap Some same
left_first (l ∷ ls) (suc n) next later is = left_first ls n next later is

left_behind : (list : List Listed) (n : ℕ) (next : Listed) (later : List Listed) → drop n list ≡ next ∷ later → drop (suc n) list ≡ later
left_behind [] zero next later is = absurd (cc is)
left_behind [] (suc n) next later is = absurd (cc is)
left_behind (l ∷ ls) zero next later is = cc is
left_behind (l ∷ ls) (suc n) next later is = left_behind ls n next later is

left_more : (list : List Listed) (n : ℕ) (next : Listed) (later : List Listed) → drop n list ≡ next ∷ later → drop (n + 1) list ≡ later
left_more list n next later is =
    let more : suc n ≡ n + 1 = omega arith in
    subst (λ (k : ℕ). drop k list ≡ later) more (left_behind list n next later is)

nothing_left : (before : List Entry) (e : Entry) (after : List Entry) → [] ≡ before ++ e ∷ after → ⊥
nothing_left [] e after is = absurd (cc is)
nothing_left (x ∷ xs) e after is =
    let k : [] ≡ x ∷ (xs ++ e ∷ after) = is in
    absurd (cc k)

-- ---- one event

first_next : (list later : List Listed) (n : ℕ) (next : Listed) (e f : Entry) (es after : List Entry) → drop n list ≡ next ∷ later → f ∷ es ≡ e ∷ after
    → f.line ≡ next.line → IsStep (step_in f.what) next.event 0 → IsNextIn list (count n 0) e
first_next list later n next e f es after left is line step =
    let same : f ≡ e = cc is in
    subst (IsNextIn list (count n 0)) same (record { listed = next; get = left_first list n next later left; line = line; step = step })

-- behind an entry that ends its event
behind_one : (list : List Listed) (n : ℕ) (e f x : Entry) (es xs after : List Entry) → f ∷ es ≡ x ∷ (xs ++ e ∷ after) → count_after f.what (count n 0) ≡ count (n + 1) 0
    → (es ≡ xs ++ e ∷ after → IsNextIn list (counted (count (n + 1) 0) xs) e) → IsNextIn list (counted (count_after x.what (count n 0)) xs) e
behind_one list n e f x es xs after is counts others =
    let same : f ≡ x = cc is in
    let rest : es ≡ xs ++ e ∷ after = cc is in
    subst (λ (c : Count). IsNextIn list (counted c xs) e) (sym (ap (λ (y : Entry). count_after y.what (count n 0)) (sym same) ∙ counts)) (others rest)

-- the hold of a start
second_next : (list later : List Listed) (n : ℕ) (next : Listed) (e f g x : Entry) (es after : List Entry) → drop n list ≡ next ∷ later → f ∷ g ∷ es ≡ x ∷ e ∷ after
    → count_after f.what (count n 0) ≡ count n 1 → g.line ≡ next.line → IsStep (step_in g.what) next.event 1 → IsNextIn list (count_after x.what (count n 0)) e
second_next list later n next e f g x es after left is counts line step =
    let first : f ≡ x = cc is in
    let second : g ≡ e = cc is in
    subst (λ (c : Count). IsNextIn list c e) (sym (ap (λ (y : Entry). count_after y.what (count n 0)) (sym first) ∙ counts))
    (subst (IsNextIn list (count n 1)) second (record { listed = next; get = left_first list n next later left; line = line; step = step }))

-- behind a start
behind_two : (list : List Listed) (n : ℕ) (e f g x y : Entry) (es xs after : List Entry) → f ∷ g ∷ es ≡ x ∷ y ∷ (xs ++ e ∷ after) → count_after f.what (count n 0) ≡ count n 1
    → count_after g.what (count n 1) ≡ count (n + 1) 0 → (es ≡ xs ++ e ∷ after → IsNextIn list (counted (count (n + 1) 0) xs) e)
    → IsNextIn list (counted (count_after y.what (count_after x.what (count n 0))) xs) e
behind_two list n e f g x y es xs after is pins counts others =
    let first : f ≡ x = cc is in
    let second : g ≡ y = cc is in
    let rest : es ≡ xs ++ e ∷ after = cc is in
    let one : count_after x.what (count n 0) ≡ count n 1 = ap (λ (z : Entry). count_after z.what (count n 0)) (sym first) ∙ pins in
    let two : count_after y.what (count n 1) ≡ count (n + 1) 0 = ap (λ (z : Entry). count_after z.what (count n 1)) (sym second) ∙ counts in
    subst (λ (c : Count). IsNextIn list (counted c xs) e) (sym (ap (count_after y.what) one ∙ two)) (others rest)

-- ---- all events

pub next_in : (list later : List Listed) (es : List Entry) (n : ℕ) → Plays later es → drop n list ≡ later → (before : List Entry) (e : Entry) (after : List Entry)
    → es ≡ before ++ e ∷ after → IsNextIn list (counted (count n 0) before) e
next_in list [] _ n played.all left before e after is = absurd (nothing_left before e after is)
next_in list (next ∷ later) _ n (played.one _ _ f es line event rest) left [] e after is =
    first_next list later n next e f es after left is line (one_step next.event f.what event)
next_in list (next ∷ later) _ n (played.one _ _ f es line event rest) left (x ∷ xs) e after is =
    behind_one list n e f x es xs after is (one_counts next.event f.what (count n 0) event) (next_in list later es (n + 1) rest (left_more list n next later left) xs e after)
next_in list (next ∷ later) _ n (played.pin _ _ f es line event rest) left [] e after is =
    first_next list later n next e f es after left is line (pin_step next.event f.what false event)
next_in list (next ∷ later) _ n (played.pin _ _ f es line event rest) left (x ∷ xs) e after is =
    behind_one list n e f x es xs after is (pin_counts next.event f.what false (count n 0) event) (next_in list later es (n + 1) rest (left_more list n next later left) xs e after)
next_in list (next ∷ later) _ n (played.start _ _ f g es line event again hold rest) left [] e after is =
    first_next list later n next e f (g ∷ es) after left is line (pin_step next.event f.what true event)
next_in list (next ∷ later) _ n (played.start _ _ f g es line event again hold rest) left (x ∷ []) e after is =
    second_next list later n next e f g x es after left is (pin_counts next.event f.what true (count n 0) event) again (hold_step next.event g.what hold)
next_in list (next ∷ later) _ n (played.start _ _ f g es line event again hold rest) left (x ∷ y ∷ ys) e after is =
    behind_two list n e f g x y es ys after is (pin_counts next.event f.what true (count n 0) event) (hold_counts next.event g.what (count n 1) hold)
    (next_in list later es (n + 1) rest (left_more list n next later left) ys e after)

one_longer : (n : ℕ) (next : Listed) (later : List Listed) → (n + 1) + length later ≡ n + length (next ∷ later)
one_longer n next later = omega arith

-- an event more has ended, and then those behind it
ended_more : (n : ℕ) (next : Listed) (later : List Listed) (c d : Count) → c ≡ d → d ≡ count ((n + 1) + length later) 0 → c ≡ count (n + length (next ∷ later)) 0
ended_more n next later c d is rest = is ∙ (rest ∙ ap (λ (k : ℕ). count k 0) (one_longer n next later))

none_more : (n : ℕ) → n ≡ n + length {A = Listed} []
none_more n = omega arith

-- behind all of them all that is listed has ended
pub ended_in : (list : List Listed) (es : List Entry) (n : ℕ) → Plays list es → counted (count n 0) es ≡ count (n + length list) 0
ended_in [] _ n played.all = ap (λ (k : ℕ). count k 0) (none_more n)
ended_in (next ∷ later) _ n (played.one _ _ e es line event rest) =
    ended_more n next later (counted (count_after e.what (count n 0)) es) (counted (count (n + 1) 0) es)
    (ap (λ (c : Count). counted c es) (one_counts next.event e.what (count n 0) event)) (ended_in later es (n + 1) rest)
ended_in (next ∷ later) _ n (played.pin _ _ e es line event rest) =
    ended_more n next later (counted (count_after e.what (count n 0)) es) (counted (count (n + 1) 0) es)
    (ap (λ (c : Count). counted c es) (pin_counts next.event e.what false (count n 0) event)) (ended_in later es (n + 1) rest)
ended_in (next ∷ later) _ n (played.start _ _ e f es line event again hold rest) =
    ended_more n next later (counted (count_after f.what (count_after e.what (count n 0))) es) (counted (count (n + 1) 0) es)
    (ap (λ (c : Count). counted c es) (ap (count_after f.what) (pin_counts next.event e.what true (count n 0) event) ∙ hold_counts next.event f.what (count n 1) hold))
    (ended_in later es (n + 1) rest)
