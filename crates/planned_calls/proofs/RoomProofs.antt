-- Where an actor has a next step, there are fewer entries than the plan makes.
use Rattle.std.proofs.Common.{◌≡◌, ◌<◌, ◌≤◌, ℕ, zero, suc, ◌+◌, ◌==◌, List, [], ◌∷◌, length, drop, Some, refl, sym, ap, ap₂, ◌∙◌, subst, arith, eq-eqb, ne_eqb}
use Rattle.std.specs.Prelude.{slice_get}
use Rattle.std.proofs.lemmas.Bool.{cond-true, cond-false}
use Rattle.std.proofs.lemmas.List.Sums.{sum_by-cons, sum_by-drop_more}
use Rattle.std.proofs.lemmas.Option.{slice_get_within, get_or_from_slice_get}
use Rattle.xc_base.specs.declared.call.Call.{Call}
use Rattle.call_journal.specs.declared.event.CallerEvent.{CallerEvent}
use Rattle.call_journal.specs.declared.entry.Entry.{Entry}
use Rattle.call_journal.specs.declared.plan.Listed.{Listed}
use Rattle.call_journal.specs.declared.plan.ListedEvent.{ListedEvent}
use Rattle.book_progress.specs.ActorCounts.{actor_entries, count_of}
use Rattle.book_progress.specs.PlayedPlans.{AreGated, HasPlayed, IsNextOf, IsPlanPlayed, IsStep, Step}
use Rattle.book_progress.specs.PlayedPlans as played
use Rattle.planned_calls.specs.PlannedCalls.{NextHasRoom, event_entries, list_entries, plan_entries}

-- ---- one list

one_at_least : (event : ListedEvent) → 1 ≤ event_entries event
one_at_least (ListedEvent.Driver event) = omega arith
one_at_least (ListedEvent.Start call) = omega arith
one_at_least (ListedEvent.Pick id word) = omega arith
one_at_least (ListedEvent.Commit id) = omega arith

two_of : (event : ListedEvent) (call : Call) → event ≡ ListedEvent.Start call → event_entries event ≡ 2
two_of event call is = ap event_entries is

-- an event and those behind it
behind : (list : List Listed) (n : ℕ) (next : Listed) → slice_get list n ≡ Some next → list_entries (drop n list) ≡ event_entries next.event + list_entries (drop (n + 1) list)
behind list n next get =
    sum_by-drop_more (λ l. event_entries l.event) list n next (slice_get_within list n next get)
    ∙ ap (λ (l : Listed). event_entries l.event + list_entries (drop (n + 1) list)) (get_or_from_slice_get list n next next get)

-- what an actor has made, and what it has left to make
made_and_left : (list : List Listed) (n pins : ℕ) (es : List Entry) → HasPlayed list n pins es → length es + list_entries (drop n list) ≤ list_entries list + pins
made_and_left list _ _ _ played.none = omega arith
made_and_left list _ _ _ (played.one n next e past get line event rest) =
    let before = made_and_left list n 0 past rest in
    let left = behind list n next get in
    let one = one_at_least next.event in
    omega (arith, before, left, one)
made_and_left list _ _ _ (played.pin n next e past get line event rest) =
    let before = made_and_left list n 0 past rest in
    let left = behind list n next get in
    let one = one_at_least next.event in
    omega (arith, before, left, one)
made_and_left list _ _ _ (played.up n next e past get line event rest) =
    let before = made_and_left list n 0 past rest in
    omega (arith, before)
made_and_left list _ _ _ (played.held n next e past get line event rest) =
    let before = made_and_left list n 1 past rest in
    let left = behind list n next get in
    let two = two_of next.event event.call event.start in
    omega (arith, before, left, two)

-- the hold of a pin that is up is left
pins_left : (list : List Listed) (n pins : ℕ) (es : List Entry) → HasPlayed list n pins es → pins ≤ list_entries (drop n list)
pins_left list _ _ _ played.none = omega arith
pins_left list _ _ _ (played.one n next e past get line event rest) = omega arith
pins_left list _ _ _ (played.pin n next e past get line event rest) = omega arith
pins_left list _ _ _ (played.up n next e past get line event rest) =
    let left = behind list n next get in
    let one = one_at_least next.event in
    omega (arith, left, one)
pins_left list _ _ _ (played.held n next e past get line event rest) = omega arith

list_room : (list : List Listed) (n pins : ℕ) (es : List Entry) → HasPlayed list n pins es → length es ≤ list_entries list
list_room list n pins es is =
    let all = made_and_left list n pins es is in
    let left = pins_left list n pins es is in
    omega (arith, all, left)

-- a step is one of what its event makes, beside the pins that are up
step_left : (step : Step) (event : ListedEvent) (pins : ℕ) → IsStep step event pins → pins < event_entries event
step_left (played.driver e) event pins is = let one = one_at_least event in let none = is.1 in omega (arith, one, none)
step_left (played.caller (CallerEvent.Pin call)) event pins is = let one = one_at_least event in let none = is.1 in omega (arith, one, none)
step_left (played.caller (CallerEvent.Hold call)) event pins is = let two = two_of event call is.0 in let up = is.1 in omega (arith, two, up)
step_left (played.caller (CallerEvent.Pick id word)) event pins is = let one = one_at_least event in let none = is.1 in omega (arith, one, none)
step_left (played.caller (CallerEvent.Commit id)) event pins is = let one = one_at_least event in let none = is.1 in omega (arith, one, none)

next_room : (list : List Listed) (n pins : ℕ) (es : List Entry) (step : Step) (next : Listed) → HasPlayed list n pins es → slice_get list n ≡ Some next → IsStep step next.event pins
    → length es < list_entries list
next_room list n pins es step next is get step_is =
    let all = made_and_left list n pins es is in
    let left = behind list n next get in
    let one = step_left step next.event pins step_is in
    omega (arith, all, left, one)

-- ---- all lists

-- numbers of the lists of a plan, added up
abbrev total : (ℕ → ℕ) → List (List Listed) → ℕ
total f [] = 0
total f (list ∷ plan) = f 0 + total (λ i. f (suc i)) plan

total_same : (f g : ℕ → ℕ) (plan : List (List Listed)) → ((i : ℕ) → g i ≡ f i) → total g plan ≡ total f plan
total_same f g [] same = refl
total_same f g (list ∷ plan) same = ap₂ (λ a b. a + b) (same 0) (total_same (λ i. f (suc i)) (λ i. g (suc i)) plan (λ i. same (suc i)))

not_first : (i : ℕ) → suc i ≡ 0 → ⊥
not_first i is = absurd (omega (arith, is))

-- one number is one more
total_more : (f g : ℕ → ℕ) (plan : List (List Listed)) (j : ℕ) → j < length plan → g j ≡ suc (f j) → ((i : ℕ) → (i ≡ j → ⊥) → g i ≡ f i) → total g plan ≡ suc (total f plan)
total_more f g [] j less more same = absurd (omega (arith, less))
total_more f g (list ∷ plan) zero less more same =
    let rest : total (λ i. g (suc i)) plan ≡ total (λ i. f (suc i)) plan = total_same (λ i. f (suc i)) (λ i. g (suc i)) plan (λ i. same (suc i) (not_first i)) in
    omega (arith, more, rest)
total_more f g (list ∷ plan) (suc j) less more same =
    let first : g 0 ≡ f 0 = same 0 (λ is. absurd (omega (arith, is))) in
    let rest : total (λ i. g (suc i)) plan ≡ suc (total (λ i. f (suc i)) plan) =
    total_more (λ i. f (suc i)) (λ i. g (suc i)) plan j (omega (arith, less)) more (λ i other. same (suc i) (λ is. other (omega (arith, is)))) in
    omega (arith, first, rest)

total_none : (f : ℕ → ℕ) (plan : List (List Listed)) → ((i : ℕ) → f i ≡ 0) → total f plan ≡ 0
total_none f [] none = refl
total_none f (list ∷ plan) none =
    let first = none 0 in
    let rest = total_none (λ i. f (suc i)) plan (λ i. none (suc i)) in
    omega (arith, first, rest)

-- numbers that are at most what each list makes
total_most : (f : ℕ → ℕ) (plan : List (List Listed)) → ((i : ℕ) (list : List Listed) → slice_get plan i ≡ Some list → f i ≤ list_entries list) → total f plan ≤ plan_entries plan
total_most f [] most = omega arith
total_most f (list ∷ plan) most =
    let sum = sum_by-cons list_entries list plan in
    let first = most 0 list refl in
    let rest = total_most (λ i. f (suc i)) plan (λ i l get. most (suc i) l get) in
    omega (arith, sum, first, rest)

total_less : (f : ℕ → ℕ) (plan : List (List Listed)) (j : ℕ) (own : List Listed) → ((i : ℕ) (list : List Listed) → slice_get plan i ≡ Some list → f i ≤ list_entries list)
    → slice_get plan j ≡ Some own → f j < list_entries own → total f plan < plan_entries plan
total_less f [] j own most get less = absurd (cc get)
total_less f (list ∷ plan) zero own most get less =
    let sum = sum_by-cons list_entries list plan in
    let same : list ≡ own = cc get in
    let first : f 0 < list_entries list = subst (λ (l : List Listed). f 0 < list_entries l) (sym same) less in
    let rest = total_most (λ i. f (suc i)) plan (λ i l got. most (suc i) l got) in
    omega (arith, sum, first, rest)
total_less f (list ∷ plan) (suc j) own most get less =
    let sum = sum_by-cons list_entries list plan in
    let first = most 0 list refl in
    let rest = total_less (λ i. f (suc i)) plan j own (λ i l got. most (suc i) l got) get less in
    omega (arith, sum, first, rest)

-- ---- the entries of each actor

abbrev made_by : List Entry → ℕ → ℕ
made_by history actor = length (actor_entries actor history)

own_more : (e : Entry) (past : List Entry) → made_by (e ∷ past) e.actor ≡ suc (made_by past e.actor)
own_more e past = ap length (cond-true (e.actor == e.actor) (e ∷ actor_entries e.actor past) (actor_entries e.actor past) (eq-eqb e.actor e.actor refl))

other_same : (e : Entry) (past : List Entry) (actor : ℕ) → (actor ≡ e.actor → ⊥) → made_by (e ∷ past) actor ≡ made_by past actor
other_same e past actor other = ap length (cond-false (e.actor == actor) (e ∷ actor_entries actor past) (actor_entries actor past) (ne_eqb e.actor actor (λ is. other (sym is))))

all_made : (plan : List (List Listed)) (history : List Entry) → AreGated plan history → total (made_by history) plan ≡ length history
all_made plan [] gated = total_none (made_by []) plan (λ i. refl)
all_made plan (e ∷ past) gated =
    let of = gated.0.is in
    total_more (made_by past) (made_by (e ∷ past)) plan e.actor (slice_get_within plan e.actor of.list of.actor_is) (own_more e past) (other_same e past) ∙ ap suc (all_made plan past gated.1)

pub next_has_room : NextHasRoom
next_has_room plan history actor line step is next =
    let all = all_made plan history is.gated in
    let most : (i : ℕ) (list : List Listed) → slice_get plan i ≡ Some list → made_by history i ≤ list_entries list = λ i list get.
    list_room list (count_of i history).ended (count_of i history).pins (actor_entries i history) (is.played i list get) in
    let own : made_by history actor < list_entries next.is.list =
    next_room next.is.list (count_of actor history).ended (count_of actor history).pins (actor_entries actor history) step next.listed (is.played actor next.is.list next.is.actor_is) next.is.next_is next.step_is in
    let less = total_less (made_by history) plan actor next.is.list most next.is.actor_is own in
    omega (arith, all, less)
