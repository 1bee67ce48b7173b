-- What a line lists for its actor, of which the last one ends the line, and what is left to each actor behind it.
use Rattle.std.proofs.Common.{◌≡◌, ◌≤◌, ◌<◌, ◌+◌, ℕ, zero, suc, List, [], ◌∷◌, ◌++◌, length, map, All, Bool, true, false, Option, Some, None, refl, sym, ap, ◌∙◌, arith, eq-eqb, ne_eqb}
use Rattle.std.specs.Prelude.{◌==◌, slice_get, if◌then◌else◌}
use Rattle.std.proofs.lemmas.Bool.{cond-false, cond-true}
use Rattle.std.proofs.lemmas.List.{map-append}
use Rattle.std.proofs.lemmas.List.Elements.{All-cons, All-head, All-nil, All-tail}
use Rattle.xc_base.specs.declared.names.Authority.{Authority}
use Rattle.xds_bootstrap.specs.declared.bootstrap.Bootstrap.{Bootstrap}
use Rattle.call_journal.specs.declared.event.DriverEvent.{DriverEvent}
use Rattle.call_journal.specs.declared.plan.Listed.{Listed}
use Rattle.call_journal.specs.declared.plan.ListedEvent.{ListedEvent}
use Rattle.session_lines.specs.declared.session.Act.{Act}
use Rattle.session_lines.specs.declared.session.Act.TheVariants as act
use Rattle.session_lines.specs.declared.session.DriverLine.{DriverLine}
use Rattle.session_lines.specs.declared.session.DriverLine.TheVariants as driver
use Rattle.session_lines.specs.declared.session.Line.{Line}
use Rattle.session_lines.specs.declared.session.Work.{Work}
use Rattle.session_lines.specs.declared.session.Work.TheVariants as work
use Rattle.session_script.specs.Plan.{Streams, data_events, driver_list, ended_in, events_of, how_of, listed_for, played_of, work_events, work_streams}
use Rattle.session_plan.specs.PlanOfSession.{act_event, caller_plan, events_by, plan_item}
use Rattle.session_plan.specs.ReadablePayloads.{is_response}
use Rattle.session_plan.proofs.DriverLemmas.{list_more}
use Rattle.session_plan.proofs.ListLemmas.{one_line}
use Rattle.session_shape.specs.SessionShape.{IsWork}
use Rattle.book_progress.specs.EndedLines.{event_ends}

-- ---- the actor of a line

-- who plays a line: the driver is actor 0
abbrev pub actor_of : Work → ℕ
actor_of (work.Driver what) = 0
actor_of (work.Caller caller what) = caller

pub actor_within : (boot : Bootstrap) (callers : ℕ) (before : List Line) (w : Work) → IsWork boot callers before w → actor_of w ≤ callers
actor_within boot callers before (work.Driver what) is = omega arith
actor_within boot callers before (work.Caller caller what) is = is.most

-- what a line lists for an actor
abbrev pub items_by : Streams → Line → Work → ℕ → List Listed
items_by streams line w zero = map plan_item (map (listed_for line) (work_events is_response streams w))
items_by streams line w (suc k) = events_by (suc k) line w

-- it lists nothing for the others
pub none_by : (streams : Streams) (line : Line) (w : Work) (actor : ℕ) → (actor ≡ actor_of w → ⊥) → items_by streams line w actor ≡ []
none_by streams line (work.Driver what) zero other = absurd (other refl)
none_by streams line (work.Driver what) (suc k) other = refl
none_by streams line (work.Caller caller what) zero other = refl
none_by streams line (work.Caller caller what) (suc k) other = cond-false (caller == suc k) _ [] (ne_eqb caller (suc k) (λ is. other (sym is)))

-- ---- what is left

-- what these lines list for an actor, and behind it the last sweep for the driver
abbrev pub left_to : Streams → List Line → ℕ → List Listed
left_to streams lines zero = map plan_item (driver_list is_response streams lines)
left_to streams lines (suc k) = caller_plan lines (suc k)

pub left_more : (streams : Streams) (line : Line) (lines : List Line) (actor : ℕ)
    → left_to streams (line ∷ lines) actor ≡ items_by streams line line.work actor ++ left_to (work_streams is_response streams line.work) lines actor
left_more streams line lines zero = list_more is_response streams line lines
left_more streams line lines (suc k) = one_line (suc k) line lines

-- ---- items of a line

-- a listed event has the number and the gate of a line
pub record IsOf (line : Line) (item : Listed) : Type 0 where
  pub line_is : item.line ≡ line.number
  pub after_is : item.after ≡ line.gate

driver_items : (line : Line) (events : List DriverEvent) → All (IsOf line) (map plan_item (map (listed_for line) events))
driver_items line [] = All-nil (IsOf line)
driver_items line (event ∷ events) =
    All-cons (IsOf line) (plan_item (listed_for line event)) (map plan_item (map (listed_for line) events)) (record { line_is = refl; after_is = refl }) (driver_items line events)

abbrev act_item : Line → Act → Listed
act_item line what = record { line = line.number; after = line.gate; event = act_event what }

caller_items : (line : Line) (what : Act) (b : Bool) → All (IsOf line) (if b then act_item line what ∷ [] else [])
caller_items line what true = All-cons (IsOf line) (act_item line what) [] (record { line_is = refl; after_is = refl }) (All-nil (IsOf line))
caller_items line what false = All-nil (IsOf line)

pub all_of : (streams : Streams) (line : Line) (w : Work) (actor : ℕ) → All (IsOf line) (items_by streams line w actor)
all_of streams line w zero = driver_items line (work_events is_response streams w)
all_of streams line (work.Driver what) (suc k) = All-nil (IsOf line)
all_of streams line (work.Caller caller what) (suc k) = caller_items line what (caller == suc k)

-- ---- the last item of a line

-- whether the last entry of a listed event ends its line
abbrev pub item_ends : ListedEvent → Bool
item_ends (ListedEvent.Driver event) = event_ends event
item_ends event = true

-- the last of these items is one of the line, and ends it
pub record EndsIn (line : Line) (items : List Listed) : Type 0 where
  pub front : List Listed
  pub last : Listed
  pub is : items ≡ front ++ last ∷ []
  pub of : IsOf line last
  pub ends : item_ends last.event ≡ true

record HasLast (events : List DriverEvent) : Type 0 where
  front : List DriverEvent
  last : DriverEvent
  is : events ≡ front ++ last ∷ []
  ends : event_ends last ≡ true

one_event : (event : DriverEvent) → event_ends event ≡ true → HasLast (event ∷ [])
one_event event ends = record { front = []; last = event; is = refl; ends = ends }

data_last : (a : Authority) (came : Option (List ℕ)) (bytes : List ℕ) → HasLast (data_events is_response a came bytes)
data_last a None bytes = one_event _ refl
data_last a (Some before) bytes = record {
  front = map (DriverEvent.Response a) (played_of is_response (ended_in before bytes));
  last = DriverEvent.Bytes a (how_of is_response before bytes);
  is = refl;
  ends = refl;
}

line_last : (streams : Streams) (what : DriverLine) → HasLast (events_of is_response streams what)
line_last streams (driver.Opened a) = one_event (DriverEvent.Opened a) refl
line_last streams (driver.Bytes a bytes) = data_last a (streams a.0) bytes
line_last streams (driver.Lost a) = one_event (DriverEvent.Lost a) refl
line_last streams (driver.Moment time) = one_event (DriverEvent.Moment time) refl
line_last streams (driver.Endpoint address state) = one_event (DriverEvent.Endpoint address state) refl
line_last streams driver.Sweep = one_event DriverEvent.Sweep refl

driver_ends : (line : Line) (events : List DriverEvent) → HasLast events → EndsIn line (map plan_item (map (listed_for line) events))
driver_ends line events has = record {
  front = map plan_item (map (listed_for line) has.front);
  last = plan_item (listed_for line has.last);
  is = ap (λ (es : List DriverEvent). map plan_item (map (listed_for line) es)) has.is
      ∙ (ap (map plan_item) (map-append (listed_for line) has.front (has.last ∷ [])) ∙ map-append plan_item (map (listed_for line) has.front) (listed_for line has.last ∷ []));
  of = record { line_is = refl; after_is = refl };
  ends = has.ends;
}

act_ends : (what : Act) → item_ends (act_event what) ≡ true
act_ends (act.Start call) = refl
act_ends (act.Pick id word) = refl
act_ends (act.Commit id) = refl

pub line_ends : (boot : Bootstrap) (callers : ℕ) (before : List Line) (streams : Streams) (line : Line) (w : Work) → IsWork boot callers before w → EndsIn line (items_by streams line w (actor_of w))
line_ends boot callers before streams line (work.Driver what) is = driver_ends line (events_of is_response streams what) (line_last streams what)
line_ends boot callers before streams line (work.Caller zero what) is = absurd (omega (arith, is.least))
line_ends boot callers before streams line (work.Caller (suc k) what) is = record {
  front = [];
  last = act_item line what;
  is = cond-true (suc k == suc k) (act_item line what ∷ []) [] (eq-eqb (suc k) (suc k) refl);
  of = record { line_is = refl; after_is = refl };
  ends = act_ends what;
}

-- ---- items among others

-- a list has such an item at a place
pub record HasAt (P : Listed → Type 0) (list : List Listed) (place : ℕ) : Type 0 where
  pub item : Listed
  pub get : slice_get list place ≡ Some item
  pub is : P item

at_first : (P : Listed → Type 0) (items rest : List Listed) (place : ℕ) → place < length items → All P items → HasAt P (items ++ rest) place
at_first P [] rest place less all = absurd (omega (arith, less))
at_first P (x ∷ xs) rest zero less all = record { item = x; get = refl; is = All-head P x xs all }
at_first P (x ∷ xs) rest (suc n) less all =
    let later : HasAt P (xs ++ rest) n = at_first P xs rest n (omega (arith, less)) (All-tail P x xs all) in
    record { item = later.item; get = later.get; is = later.is }

-- between a front and the rest of a list stand items that are such
pub at_middle : (P : Listed → Type 0) (front items rest : List Listed) (place : ℕ) → length front ≤ place → place < length front + length items → All P items
    → HasAt P (front ++ (items ++ rest)) place
at_middle P [] items rest place least less all = at_first P items rest place (omega (arith, less)) all
at_middle P (x ∷ xs) items rest zero least less all = absurd (omega (arith, least))
at_middle P (x ∷ xs) items rest (suc n) least less all =
    let later : HasAt P (xs ++ (items ++ rest)) n = at_middle P xs items rest n (omega (arith, least)) (omega (arith, less)) all in
    record { item = later.item; get = later.get; is = later.is }

pub last_at : (front items rest : List Listed) (last : Listed) (place : ℕ) → place ≡ length front + length items → slice_get (front ++ ((items ++ last ∷ []) ++ rest)) place ≡ Some last
last_at [] [] rest last zero is = refl
last_at [] [] rest last (suc n) is = absurd (omega (arith, is))
last_at [] (x ∷ xs) rest last zero is = absurd (omega (arith, is))
last_at [] (x ∷ xs) rest last (suc n) is = last_at [] xs rest last n (omega (arith, is))
last_at (x ∷ xs) items rest last zero is = absurd (omega (arith, is))
last_at (x ∷ xs) items rest last (suc n) is = last_at xs items rest last n (omega (arith, is))
