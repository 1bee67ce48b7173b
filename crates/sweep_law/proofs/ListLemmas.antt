-- The lists of a plan: each listed event has the number of a line, but the last one of the driver, which is the last sweep.
use Rattle.std.proofs.Common.{◌≡◌, ◌≤◌, ◌+◌, ℕ, List, [], ◌∷◌, ◌++◌, length, map, All, Some, refl, sym, ap, ◌∙◌, subst, arith}
use Rattle.std.specs.List.{slice_get}
use Rattle.std.proofs.lemmas.List.{append_assoc}
use Rattle.std.proofs.lemmas.List.Elements.{All-append, All-cons, All-head, All-nil, All-tail}
use Rattle.std.proofs.lemmas.Option.{get_or_from_slice_get, slice_get_within}
use Rattle.xds_bootstrap.specs.declared.bootstrap.Bootstrap.{Bootstrap}
use Rattle.call_journal.specs.declared.event.DriverEvent.{DriverEvent}
use Rattle.call_journal.specs.declared.plan.Listed.{Listed}
use Rattle.session_lines.specs.declared.session.Line.{Line}
use Rattle.session_lines.specs.declared.session.Work.{Work}
use Rattle.session_lines.specs.declared.session.Work.TheVariants as work
use Rattle.session_script.specs.Plan.{Streams, driver_list, listed_for, work_events, work_streams}
use Rattle.session_plan.specs.PlanOfSession.{events_in, events_on, plan_item}
use Rattle.session_plan.specs.ReadablePayloads.{is_response}
use Rattle.session_plan.proofs.DriverLemmas.{list_end, list_more}
use Rattle.session_shape.specs.SessionShape.{AreLines}
use Rattle.sweep_law.specs.SweepLaw.{listed_sweep}

-- ---- lines

abbrev pub IsNumbered : Line → Type 0
IsNumbered line = 5 ≤ line.number

pub lines_numbered : (boot : Bootstrap) (callers : ℕ) (before lines : List Line) → AreLines boot callers before lines → All IsNumbered lines
lines_numbered boot callers before [] are = All-nil IsNumbered
lines_numbered boot callers before (l ∷ ls) are =
    let number : l.number ≡ length before + 5 = are.0.number_is in
    let least : 5 ≤ l.number = omega (arith, number) in
    All-cons IsNumbered l ls least (lines_numbered boot callers (l ∷ before) ls are.1)

-- ---- callers

-- a listed event has the number of a line
abbrev pub IsOfLine : Listed → Type 0
IsOfLine item = 5 ≤ item.line

line_listed : (line : Line) (w : Work) (rest : List Listed) → IsNumbered line → All IsOfLine rest → All IsOfLine (events_on line w ++ rest)
line_listed line (work.Driver what) rest number all = all
line_listed line (work.Caller own what) rest number all = All-cons IsOfLine _ rest number all

events_listed : (lines : List Line) → All IsNumbered lines → All IsOfLine (events_in lines)
events_listed [] all = All-nil IsOfLine
events_listed (line ∷ lines) all =
    line_listed line line.work (events_in lines) (All-head IsNumbered line lines all) (events_listed lines (All-tail IsNumbered line lines all))

pub event_listed : (lines : List Line) (i : ℕ) (item : Listed) → All IsNumbered lines → slice_get (events_in lines) i ≡ Some item → IsOfLine item
event_listed lines i item all at =
    subst IsOfLine (get_or_from_slice_get (events_in lines) i item item at) (events_listed lines all i item (slice_get_within (events_in lines) i item at))

-- ---- the driver

-- what lines list for the driver
abbrev items_on : Streams → Line → List Listed
items_on streams line = map plan_item (map (listed_for line) (work_events is_response streams line.work))

-- what is listed for the driver before the last sweep
abbrev pub before_sweep : Streams → List Line → List Listed
before_sweep streams [] = []
before_sweep streams (line ∷ lines) = items_on streams line ++ before_sweep (work_streams is_response streams line.work) lines

-- behind that comes the last sweep alone
pub sweep_behind : (streams : Streams) (lines : List Line) → map plan_item (driver_list is_response streams lines) ≡ before_sweep streams lines ++ listed_sweep ∷ []
sweep_behind streams [] = list_end is_response streams
sweep_behind streams (line ∷ lines) =
    let rest : List Listed = before_sweep (work_streams is_response streams line.work) lines in
    list_more is_response streams line lines
    ∙ (ap (λ (l : List Listed). items_on streams line ++ l) (sweep_behind (work_streams is_response streams line.work) lines)
    ∙ sym (append_assoc (items_on streams line) rest (listed_sweep ∷ [])))

items_listed : (line : Line) (events : List DriverEvent) → IsNumbered line → All IsOfLine (map plan_item (map (listed_for line) events))
items_listed line [] number = All-nil IsOfLine
items_listed line (event ∷ events) number =
    All-cons IsOfLine (plan_item (listed_for line event)) (map plan_item (map (listed_for line) events)) number (items_listed line events number)

pub before_listed : (streams : Streams) (lines : List Line) → All IsNumbered lines → All IsOfLine (before_sweep streams lines)
before_listed streams [] all = All-nil IsOfLine
before_listed streams (line ∷ lines) all =
    All-append IsOfLine (items_on streams line) (before_sweep (work_streams is_response streams line.work) lines)
    (items_listed line (work_events is_response streams line.work) (All-head IsNumbered line lines all))
    (before_listed (work_streams is_response streams line.work) lines (All-tail IsNumbered line lines all))

-- ---- the last one of a list

pub last_at : (front : List Listed) (last : Listed) → slice_get (front ++ last ∷ []) (length front) ≡ Some last
last_at [] last = refl
last_at (item ∷ front) last = last_at front last

pub one_longer : (front : List Listed) (last : Listed) → length (front ++ last ∷ []) ≡ length front + 1
one_longer [] last = refl
one_longer (item ∷ front) last =
    let rest : length (front ++ last ∷ []) ≡ length front + 1 = one_longer front last in
    omega (arith, rest)
