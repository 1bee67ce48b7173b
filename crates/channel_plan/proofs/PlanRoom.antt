-- The plan of a session makes at most as many entries as its lines are counted for.
use Rattle.std.proofs.Common.{◌≡◌, ◌<◌, ◌≤◌, ℕ, zero, suc, ◌+◌, List, [], ◌∷◌, ◌++◌, length, map, Bool, true, false, refl, sym, ap, subst, arith, eqb-true, if◌then◌else◌}
use Rattle.std.specs.Prelude.{◌==◌}
use Rattle.std.specs.List.{range_with_len, sum_by}
use Rattle.std.proofs.lemmas.List.Sums.{sum_by-append, sum_by-cons}
use Rattle.call_journal.specs.declared.event.DriverEvent.{DriverEvent}
use Rattle.call_journal.specs.declared.plan.Listed.{Listed}
use Rattle.session_lines.specs.Before.{act_entries, entries, entries_of}
use Rattle.session_lines.specs.declared.session.Act.{Act}
use Rattle.session_lines.specs.declared.session.Act.TheVariants as act
use Rattle.session_lines.specs.declared.session.Line.{Line}
use Rattle.session_lines.specs.declared.session.Session.{Session}
use Rattle.session_lines.specs.declared.session.Work.{Work}
use Rattle.session_lines.specs.declared.session.Work.TheVariants as work
use Rattle.session_script.specs.Plan.{Streams, driver_list, is_of_caller, lines_by, listed_for, none_up, work_events, work_streams}
use Rattle.session_plan.specs.PlanOfSession.{act_event, caller_plan, driver_plan, events_in, events_on, plan_item, plan_of}
use Rattle.session_plan.specs.ReadablePayloads.{is_response}
use Rattle.session_plan.proofs.DriverLemmas.{list_end, list_more}
use Rattle.channel_calls.specs.planned_calls.PlannedCalls.{event_entries, list_entries, plan_entries}
use Rattle.session_player.proofs.EventLemmas.{few_events}

-- ---- sums

sum_same : {X : Type 0} (f g : X → ℕ) → ((x : X) → f x ≡ g x) → (xs : List X) → sum_by f xs ≡ sum_by g xs
sum_same f g same [] = refl
sum_same f g same (x ∷ xs) =
    let here = same x in
    let rest = sum_same f g same xs in
    let a = sum_by-cons f x xs in
    let b = sum_by-cons g x xs in
    omega (arith, here, rest, a, b)

sum_map : {X Y : Type 0} (f : Y → ℕ) (g : X → Y) (xs : List X) → sum_by f (map g xs) ≡ sum_by (λ x. f (g x)) xs
sum_map f g [] = refl
sum_map f g (x ∷ xs) =
    let rest = sum_map f g xs in
    let a = sum_by-cons f (g x) (map g xs) in
    let b = sum_by-cons (λ y. f (g y)) x xs in
    omega (arith, rest, a, b)

-- what one number of a range has beside what all have
abbrev with_own : ℕ → ℕ → (ℕ → ℕ) → ℕ → ℕ
with_own own x f k = (if own == k then x else 0) + f k

below_by : (own s x : ℕ) (b : Bool) → (own == s) ≡ b → own < s → (if b then x else 0) ≡ 0
below_by own s x true is less = let same : own ≡ s = eqb-true own s is in absurd (omega (arith, same, less))
below_by own s x false is less = refl

sum_below : (own x : ℕ) (f : ℕ → ℕ) (s n : ℕ) → own < s → sum_by (with_own own x f) (range_with_len s n) ≡ sum_by f (range_with_len s n)
sum_below own x f s zero less = refl
sum_below own x f s (suc n) less =
    let here : (if own == s then x else 0) ≡ 0 = below_by own s x (own == s) refl less in
    let rest = sum_below own x f (s + 1) n (omega (arith, less)) in
    let a = sum_by-cons (with_own own x f) s (range_with_len (s + 1) n) in
    let b = sum_by-cons f s (range_with_len (s + 1) n) in
    omega (arith, here, rest, a, b)

own_by : (own x : ℕ) (f : ℕ → ℕ) (s n : ℕ) (b : Bool) → (own == s) ≡ b → sum_by (with_own own x f) (range_with_len (s + 1) n) ≤ x + sum_by f (range_with_len (s + 1) n)
    → (if b then x else 0) + sum_by (with_own own x f) (range_with_len (s + 1) n) ≤ x + sum_by f (range_with_len (s + 1) n)
own_by own x f s n true is le =
    let same : own ≡ s = eqb-true own s is in
    let rest = sum_below own x f (s + 1) n (omega (arith, same)) in
    omega (arith, rest)
own_by own x f s n false is le = omega (arith, le)

sum_own : (own x : ℕ) (f : ℕ → ℕ) (s n : ℕ) → sum_by (with_own own x f) (range_with_len s n) ≤ x + sum_by f (range_with_len s n)
sum_own own x f s zero = omega arith
sum_own own x f s (suc n) =
    let rest = own_by own x f s n (own == s) refl (sum_own own x f (s + 1) n) in
    let a = sum_by-cons (with_own own x f) s (range_with_len (s + 1) n) in
    let b = sum_by-cons f s (range_with_len (s + 1) n) in
    omega (arith, rest, a, b)

sum_none : (s n : ℕ) → sum_by (λ (k : ℕ). 0) (range_with_len s n) ≡ 0
sum_none s zero = refl
sum_none s (suc n) =
    let rest = sum_none (s + 1) n in
    let a = sum_by-cons (λ (k : ℕ). 0) s (range_with_len (s + 1) n) in
    omega (arith, rest, a)

-- ---- the driver

items_many : (line : Line) (events : List DriverEvent) → list_entries (map plan_item (map (listed_for line) events)) ≡ length events
items_many line [] = refl
items_many line (e ∷ events) =
    let rest = items_many line events in
    let a = sum_by-cons (λ (l : Listed). event_entries l.event) (plan_item (listed_for line e)) (map plan_item (map (listed_for line) events)) in
    omega (arith, rest, a)

-- ---- callers

-- what a line makes for its own caller
abbrev act_of : Work → ℕ
act_of (work.Driver what) = 0
act_of (work.Caller caller what) = act_entries what

abbrev caller_of : Work → ℕ
caller_of (work.Driver what) = 0
caller_of (work.Caller caller what) = caller

act_same : (what : Act) → event_entries (act_event what) ≡ act_entries what
act_same (act.Start call) = refl
act_same (act.Pick id word) = refl
act_same (act.Commit id) = refl

by_test : (line : Line) (caller k : ℕ) (what : Act) (b : Bool) (lines : List Line) → (caller == k) ≡ b
    → list_entries (if b then events_on line (work.Caller caller what) ++ events_in lines else events_in lines) ≡ (if b then act_entries what else 0) + list_entries (events_in lines)
by_test line caller k what true lines is =
    let a = sum_by-cons (λ (l : Listed). event_entries l.event) (record { line = line.number; after = line.gate; event = act_event what }) (events_in lines) in
    let b = act_same what in
    omega (arith, a, b)
by_test line caller k what false lines is = omega arith

by_work : (line : Line) (k : ℕ) (w : Work) (lines : List Line)
    → list_entries (if is_of_caller k w then events_on line w ++ events_in lines else events_in lines) ≤ with_own (caller_of w) (act_of w) (λ (x : ℕ). list_entries (events_in lines)) k
by_work line k (work.Driver what) lines = none_by (0 == k) (list_entries (events_in lines))
  where
    none_by : (b : Bool) (n : ℕ) → n ≤ (if b then 0 else 0) + n
    none_by true n = omega arith
    none_by false n = omega arith
by_work line k (work.Caller caller what) lines = let same = by_test line caller k what (caller == k) lines refl in omega (arith, same)

events_by : (b : Bool) (line : Line) (lines : List Line) → events_in (if b then line ∷ lines else lines) ≡ (if b then events_on line line.work ++ events_in lines else events_in lines)
events_by true line lines = refl
events_by false line lines = refl

caller_more : (line : Line) (lines : List Line) (k : ℕ) → list_entries (caller_plan (line ∷ lines) k) ≤ with_own (caller_of line.work) (act_of line.work) (λ (x : ℕ). list_entries (caller_plan lines x)) k
caller_more line lines k =
    subst (λ (ls : List Listed). list_entries ls ≤ with_own (caller_of line.work) (act_of line.work) (λ (x : ℕ). list_entries (caller_plan lines x)) k)
    (sym (events_by (is_of_caller k line.work) line (lines_by k lines))) (by_work line k line.work (lines_by k lines))

sum_less : (f g : ℕ → ℕ) → ((k : ℕ) → f k ≤ g k) → (xs : List ℕ) → sum_by f xs ≤ sum_by g xs
sum_less f g less [] = omega arith
sum_less f g less (x ∷ xs) =
    let here = less x in
    let rest = sum_less f g less xs in
    let a = sum_by-cons f x xs in
    let b = sum_by-cons g x xs in
    omega (arith, here, rest, a, b)

abbrev of_callers : List Line → ℕ → ℕ
of_callers lines callers = sum_by (λ k. list_entries (caller_plan lines k)) (range_with_len 1 callers)

callers_more : (line : Line) (lines : List Line) (callers : ℕ) → of_callers (line ∷ lines) callers ≤ act_of line.work + of_callers lines callers
callers_more line lines callers =
    let f : ℕ → ℕ = λ k. list_entries (caller_plan lines k) in
    let a = sum_less (λ k. list_entries (caller_plan (line ∷ lines) k)) (with_own (caller_of line.work) (act_of line.work) f) (caller_more line lines) (range_with_len 1 callers) in
    let b = sum_own (caller_of line.work) (act_of line.work) f 1 callers in
    omega (arith, a, b)

-- ---- all actors

work_room : (streams : Streams) (w : Work) → length (work_events is_response streams w) + act_of w ≤ entries_of w
work_room streams (work.Driver what) = let few = few_events streams what in omega (arith, few)
work_room streams (work.Caller caller what) = omega arith

room_of : (streams : Streams) (lines : List Line) (callers : ℕ) → list_entries (map plan_item (driver_list is_response streams lines)) + of_callers lines callers ≤ entries lines + 1
room_of streams [] callers =
    let last : list_entries (map plan_item (driver_list is_response streams [])) ≡ 1 = ap list_entries (list_end is_response streams) in
    let none = sum_none 1 callers in
    omega (arith, last, none)
room_of streams (line ∷ lines) callers =
    let items : List Listed = map plan_item (map (listed_for line) (work_events is_response streams line.work)) in
    let rest : List Listed = map plan_item (driver_list is_response (work_streams is_response streams line.work) lines) in
    let driver : list_entries (map plan_item (driver_list is_response streams (line ∷ lines))) ≡ list_entries (items ++ rest) = ap list_entries (list_more is_response streams line lines) in
    let parts = sum_by-append (λ (l : Listed). event_entries l.event) items rest in
    let many = items_many line (work_events is_response streams line.work) in
    let callers_are = callers_more line lines callers in
    let own = work_room streams line.work in
    let before = room_of (work_streams is_response streams line.work) lines callers in
    let sum = sum_by-cons (λ (l : Line). entries_of l.work) line lines in
    omega (arith, driver, parts, many, callers_are, own, before, sum)

pub plan_room : (session : Session) → plan_entries (plan_of is_response session) ≤ entries session.lines + 1
plan_room session =
    let room = room_of none_up session.lines session.callers in
    let a = sum_by-cons list_entries (driver_plan is_response session.lines) (map (caller_plan session.lines) (range_with_len 1 session.callers)) in
    let b = sum_map list_entries (caller_plan session.lines) (range_with_len 1 session.callers) in
    omega (arith, room, a, b)
