-- The plan of a session starts each call at most once.
use Rattle.std.proofs.Common.{◌≡◌, ◌<◌, ◌≤◌, ◌⊎◌, inl, inr, ℕ, zero, suc, List, [], ◌∷◌, ◌++◌, length, take, reverse, map, Bool, true, false, ◌&&◌, ◌||◌, Some, refl, sym, ap, ◌∙◌, subst, arith, eq-eqb, eqb-true, if◌then◌else◌}
use Rattle.std.specs.Prelude.{◌==◌}
use Rattle.std.specs.List.{list_any, slice_get}
use Rattle.std.proofs.lemmas.Bool.{cases_lt}
use Rattle.std.proofs.lemmas.List.{reverse-append}
use Rattle.std.proofs.lemmas.List.Folds.{list_any-append}
use Rattle.call_journal.specs.declared.plan.Listed.{Listed}
use Rattle.call_journal.specs.declared.plan.ListedEvent.{ListedEvent}
use Rattle.session_lines.specs.Before.{call_in, is_start, is_started, starts}
use Rattle.session_lines.specs.declared.session.Act.{Act}
use Rattle.session_lines.specs.declared.session.Act.TheVariants as act
use Rattle.session_lines.specs.declared.session.Line.{Line}
use Rattle.session_lines.specs.declared.session.Session.{Session}
use Rattle.session_lines.specs.declared.session.Work.{Work}
use Rattle.session_lines.specs.declared.session.Work.TheVariants as work
use Rattle.session_script.specs.Plan as script
use Rattle.session_script.specs.Plan.{driver_list, is_of_caller, lines_by, none_up}
use Rattle.session_plan.specs.PlanOfSession.{act_event, caller_plan, events_in, events_on, plan_item, plan_of}
use Rattle.session_plan.specs.ReadablePayloads.{is_response}
use Rattle.channel_calls.specs.planned_calls.PlannedCalls.{IsStartAt, IsStartOf, StartsOnce}
use Rattle.session_shape.specs.SessionShape.{IsCalled, IsWellFormed, IsWork}
use Rattle.session_player.proofs.ShapeLemmas.{line_behind}
use Rattle.channel_plan.proofs.LineGates.{IsListFor, list_for}
use Rattle.channel_plan.proofs.LineGates as list

-- ---- the line of a listed event

-- an event of a caller's list is that of a line, before which the caller has as many lines as the list has events before it
pub record IsPlaceOf (lines : List Line) (caller i : ℕ) (item : Listed) : Type 0 where
  pub place : ℕ
  pub line : Line
  pub line_is : slice_get lines place ≡ Some line
  pub what : Act
  pub work_is : line.work ≡ work.Caller caller what
  pub event_is : item.event ≡ act_event what
  pub before_is : i ≡ length (lines_by caller (take place lines))

events_by : (b : Bool) (line : Line) (lines : List Line) → events_in (if b then line ∷ lines else lines) ≡ (if b then events_on line line.work ++ events_in lines else events_in lines)
events_by true line lines = refl
events_by false line lines = refl

length_by : (b : Bool) (line : Line) (lines : List Line) → length (if b then line ∷ lines else lines) ≡ (if b then suc (length lines) else length lines)
length_by true line lines = refl
length_by false line lines = refl

-- behind a line that isn't of this caller
other_line : (line : Line) (lines : List Line) (caller i : ℕ) (item : Listed) → is_of_caller caller line.work ≡ false → IsPlaceOf lines caller i item → IsPlaceOf (line ∷ lines) caller i item
other_line line lines caller i item other at = record {
  place = suc at.place;
  line = at.line;
  line_is = at.line_is;
  what = at.what;
  work_is = at.work_is;
  event_is = at.event_is;
  before_is = at.before_is ∙ sym (ap (λ (b : Bool). length (if b then line ∷ lines_by caller (take at.place lines) else lines_by caller (take at.place lines))) other);
}

-- behind a line of this caller
own_line : (line : Line) (lines : List Line) (caller i : ℕ) (item : Listed) → is_of_caller caller line.work ≡ true → IsPlaceOf lines caller i item → IsPlaceOf (line ∷ lines) caller (suc i) item
own_line line lines caller i item own at = record {
  place = suc at.place;
  line = at.line;
  line_is = at.line_is;
  what = at.what;
  work_is = at.work_is;
  event_is = at.event_is;
  before_is = ap suc at.before_is ∙ sym (ap (λ (b : Bool). length (if b then line ∷ lines_by caller (take at.place lines) else lines_by caller (take at.place lines))) own);
}

-- the line of this caller is the first
first_line : (line : Line) (lines : List Line) (caller : ℕ) (what : Act) (item : Listed) → line.work ≡ work.Caller caller what → item.event ≡ act_event what → IsPlaceOf (line ∷ lines) caller 0 item
first_line line lines caller what item is event = record { place = 0; line = line; line_is = refl; what = what; work_is = is; event_is = event; before_is = refl }

some_event : (x y : Listed) → Some x ≡ Some y → y.event ≡ x.event
some_event x y is = let same : x ≡ y = cc is in ap (λ (l : Listed). l.event) (sym same)

at_caller : (line : Line) (lines : List Line) (caller own i : ℕ) (what : Act) (item : Listed) (b : Bool) → ((j : ℕ) → slice_get (caller_plan lines caller) j ≡ Some item → IsPlaceOf lines caller j item)
    → line.work ≡ work.Caller own what → (own == caller) ≡ b
    → slice_get (if b then events_on line (work.Caller own what) ++ caller_plan lines caller else caller_plan lines caller) i ≡ Some item → IsPlaceOf (line ∷ lines) caller i item
at_caller line lines caller own zero what item true rest is same get =
    let here : own ≡ caller = eqb-true own caller same in
    let event : item.event ≡ act_event what = some_event (record { line = line.number; after = line.gate; event = act_event what }) item get in
    first_line line lines caller what item (is ∙ ap (λ (k : ℕ). work.Caller k what) here) event
at_caller line lines caller own (suc i) what item true rest is same get = own_line line lines caller i item (ap (is_of_caller caller) is ∙ same) (rest i get)
at_caller line lines caller own i what item false rest is other get = other_line line lines caller i item (ap (is_of_caller caller) is ∙ other) (rest i get)

at_work : (line : Line) (lines : List Line) (caller i : ℕ) (item : Listed) (w : Work) → ((j : ℕ) → slice_get (caller_plan lines caller) j ≡ Some item → IsPlaceOf lines caller j item)
    → line.work ≡ w → slice_get (if is_of_caller caller w then events_on line w ++ caller_plan lines caller else caller_plan lines caller) i ≡ Some item → IsPlaceOf (line ∷ lines) caller i item
at_work line lines caller i item (work.Driver what) rest is get = other_line line lines caller i item (ap (is_of_caller caller) is) (rest i get)
at_work line lines caller i item (work.Caller own what) rest is get = at_caller line lines caller own i what item (own == caller) rest is refl get

caller_place : (lines : List Line) (caller i : ℕ) (item : Listed) → slice_get (caller_plan lines caller) i ≡ Some item → IsPlaceOf lines caller i item
caller_place [] caller i item get = absurd (cc get)
caller_place (line ∷ lines) caller i item get =
    at_work line lines caller i item line.work (λ j at. caller_place lines caller j item at) refl
    (ap (λ (ls : List Listed). slice_get ls i) (sym (events_by (is_of_caller caller line.work) line (lines_by caller lines))) ∙ get)

-- ---- the lines of starts

any_taken : (f : Line → Bool) (lines : List Line) (p q : ℕ) (line : Line) → slice_get lines p ≡ Some line → p < q → f line ≡ true → list_any f (take q lines) ≡ true
any_taken f [] p q line get less is = absurd (cc get)
any_taken f (l ∷ lines) p zero line get less is = absurd (omega (arith, less))
any_taken f (l ∷ lines) zero (suc q) line get less is = let same : l ≡ line = cc get in left (f l) (list_any f (take q lines)) (ap f same ∙ is)
  where
    left : (a b : Bool) → a ≡ true → (a || b) ≡ true
    left true b h = refl
    left false b h = absurd (cc h)
any_taken f (l ∷ lines) (suc p) (suc q) line get less is = right (f l) (list_any f (take q lines)) (any_taken f lines p q line get (omega (arith, less)) is)
  where
    right : (a b : Bool) → b ≡ true → (a || b) ≡ true
    right true b h = refl
    right false b h = h

any_reverse : (f : Line → Bool) (lines : List Line) → list_any f lines ≡ true → list_any f (reverse lines) ≡ true
any_reverse f [] is = is
any_reverse f (l ∷ lines) is =
    ap (list_any f) (reverse-append (l ∷ []) lines) ∙ (list_any-append f (reverse lines) (l ∷ []) ∙ by (f l) (list_any f lines) (list_any f (reverse lines)) is (any_reverse f lines))
  where
    by : (a b c : Bool) → (a || b) ≡ true → (b ≡ true → c ≡ true) → (c || (a || false)) ≡ true
    by true b true h k = refl
    by true b false h k = refl
    by false b c h k = let is : c ≡ true = k h in cc is

-- an act starts the call of this number
pub record IsStartIn (number : ℕ) (what : Act) : Type 0 where
  pub start : is_start what ≡ true
  pub call : call_in what ≡ number

start_in : (number : ℕ) (what : Act) → IsStartOf number (act_event what) → IsStartIn number what
start_in number (act.Start call) is = record { start = refl; call = is }
start_in number (act.Pick id word) is = absurd is
start_in number (act.Commit id) is = absurd is

starts_line : (number caller : ℕ) (what : Act) (line : Line) → line.work ≡ work.Caller caller what → IsStartIn number what → starts number line.work ≡ true
starts_line number caller what line is start = ap (starts number) is ∙ both (is_start what) (call_in what == number) start.start (eq-eqb (call_in what) number start.call)
  where
    both : (a b : Bool) → a ≡ true → b ≡ true → (a && b) ≡ true
    both true b h k = k
    both false b h k = absurd (cc h)

called_at : (session : Session) → IsWellFormed session → (caller i : ℕ) (item : Listed) → (at : IsPlaceOf session.lines caller i item) → IsCalled session.callers (reverse (take at.place session.lines)) caller at.what
called_at session formed caller i item at =
    subst (λ (w : Work). IsWork session.boot session.callers (reverse (take at.place session.lines)) w) at.work_is
    (line_behind session.boot session.callers session.lines at.place at.line formed.lines at.line_is).work_is

-- a call isn't started by an earlier line
not_before : (session : Session) → IsWellFormed session → (number a b i j : ℕ) (x y : Listed) → (one : IsPlaceOf session.lines a i x) → (two : IsPlaceOf session.lines b j y)
    → IsStartIn number one.what → IsStartIn number two.what → one.place < two.place → suc zero ≤ zero
not_before session formed number a b i j x y one two first second less =
    let began : list_any (λ (l : Line). starts number l.work) (reverse (take two.place session.lines)) ≡ true =
    any_reverse (λ (l : Line). starts number l.work) (take two.place session.lines)
    (any_taken (λ (l : Line). starts number l.work) session.lines one.place two.place one.line one.line_is less (starts_line number a one.what one.line one.work_is first)) in
    let new : is_started (call_in two.what) (reverse (take two.place session.lines)) ≡ false = (called_at session formed b j y two).new second.start in
    let new_at : is_started number (reverse (take two.place session.lines)) ≡ false = subst (λ (k : ℕ). is_started k (reverse (take two.place session.lines)) ≡ false) second.call new in
    absurd (cc (began, new_at))

-- one line is of one caller, at one place of its list
same_work : (v w : Work) (a b : ℕ) (x y : Act) → v ≡ w → v ≡ work.Caller a x → w ≡ work.Caller b y → a ≡ b
same_work v w a b x y is one two = let both : work.Caller a x ≡ work.Caller b y = sym one ∙ (is ∙ two) in cc both

same_place : (lines : List Line) (a b i j : ℕ) (x y : Listed) → (one : IsPlaceOf lines a i x) → (two : IsPlaceOf lines b j y) → one.place ≡ two.place → (a ≡ b) × (i ≡ j)
same_place lines a b i j x y one two same =
    let both : Some one.line ≡ Some two.line = sym one.line_is ∙ (ap (λ (k : ℕ). slice_get lines k) same ∙ two.line_is) in
    let line : one.line ≡ two.line = cc both in
    let caller : a ≡ b = same_work one.line.work two.line.work a b one.what two.what (ap (λ (l : Line). l.work) line) one.work_is two.work_is in (
      caller,
      one.before_is ∙ (ap (λ (k : ℕ). length (lines_by k (take one.place lines))) caller ∙ (ap (λ (p : ℕ). length (lines_by b (take p lines))) same ∙ sym two.before_is)),
    )

callers_once : (session : Session) → IsWellFormed session → (number a b i j : ℕ) (x y : Listed) → (one : IsPlaceOf session.lines a i x) → (two : IsPlaceOf session.lines b j y)
    → IsStartIn number one.what → IsStartIn number two.what → (a ≡ b) × (i ≡ j)
callers_once session formed number a b i j x y one two first second = by_place (cases_lt one.place two.place) (cases_lt two.place one.place)
  where
    by_place : (one.place < two.place) ⊎ (two.place ≤ one.place) → (two.place < one.place) ⊎ (one.place ≤ two.place) → (a ≡ b) × (i ≡ j)
    by_place (inl less) other = absurd (omega (arith, not_before session formed number a b i j x y one two first second less))
    by_place (inr le) (inl less) = absurd (omega (arith, not_before session formed number b a j i y x two one second first less))
    by_place (inr le) (inr ge) = let same : one.place ≡ two.place = omega (arith, le, ge) in same_place session.lines a b i j x y one two same

-- ---- the plan

driver_none : (made : List script.Listed) (number i : ℕ) (item : Listed) → slice_get (map plan_item made) i ≡ Some item → IsStartOf number item.event → ⊥
driver_none [] number i item get start = absurd (cc get)
driver_none (m ∷ made) number zero item get start = let same : item ≡ plan_item m = cc get in subst (λ (l : Listed). IsStartOf number l.event) same start
driver_none (m ∷ made) number (suc i) item get start = driver_none made number i item get start

-- a start of the plan is that of a line of its caller
pub record IsLineOf (session : Session) (number actor i : ℕ) : Type 0 where
  pub item : Listed
  pub at : IsPlaceOf session.lines actor i item
  pub start : IsStartIn number at.what

line_by : (session : Session) (number actor i : ℕ) (own : List Listed) (item : Listed) → IsListFor session actor own → slice_get own i ≡ Some item → IsStartOf number item.event → IsLineOf session number actor i
line_by session number _ i _ item list.driver get start = absurd (driver_none (driver_list is_response none_up session.lines) number i item get start)
line_by session number _ i _ item (list.caller k less) get start =
    let at = caller_place session.lines (suc k) i item get in
    record { item = item; at = at; start = start_in number at.what (subst (λ (e : ListedEvent). IsStartOf number e) at.event_is start) }

line_of : (session : Session) (number actor i : ℕ) → IsStartAt (plan_of is_response session) number actor i → IsLineOf session number actor i
line_of session number actor i start = line_by session number actor i start.list start.listed (list_for session actor start.list start.actor_is) start.place_is start.start

pub starts_once : (session : Session) → IsWellFormed session → StartsOnce (plan_of is_response session)
starts_once session formed number a b i j one two =
    let x = line_of session number a i one in
    let y = line_of session number b j two in
    callers_once session formed number a b i j x.item y.item x.at y.at x.start y.start
