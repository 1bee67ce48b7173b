-- The gate of each listed event is that of its line.
use Rattle.std.proofs.Common.{◌≡◌, ◌<◌, ℕ, zero, suc, List, [], ◌∷◌, ◌++◌, length, map, All, get_or, Some, sym, ◌∙◌, subst}
use Rattle.std.specs.List.{range_with_len, slice_get}
use Rattle.std.proofs.lemmas.List.FromFn.{length-map-range_with_len}
use Rattle.std.proofs.lemmas.List.Elements.{All-append, All-cons, All-filter, All-head, All-nil, All-same, All-tail}
use Rattle.std.proofs.lemmas.Option.{get_or_from_slice_get, slice_get-get_or, slice_get_within}
use Rattle.call_journal.specs.declared.event.DriverEvent.{DriverEvent}
use Rattle.call_journal.specs.declared.plan.Listed.{Listed}
use Rattle.session_lines.specs.declared.session.Line.{Line}
use Rattle.session_lines.specs.declared.session.Session.{Session}
use Rattle.session_lines.specs.declared.session.Work.{Work}
use Rattle.session_lines.specs.declared.session.Work.TheVariants as work
use Rattle.session_script.specs.Plan.{Streams, driver_list, is_of_caller, last_sweep, lines_by, listed_for, none_up, work_events, work_streams}
use Rattle.session_plan.specs.PlanOfSession.{caller_plan, driver_plan, events_in, events_on, plan_item, plan_of}
use Rattle.session_plan.specs.ReadablePayloads.{is_response}
use Rattle.session_plan.proofs.DriverLemmas.{list_end, list_more}
use Rattle.session_plan.proofs.LawProofs.{caller_at}
use Rattle.session_player.specs.legal_history.Legal.{gate_of}
use Rattle.session_shape.specs.SessionShape.{IsWellFormed}
use Rattle.session_player.proofs.ShapeLemmas.{gate_at, no_gate}

pub all_get : {X : Type 0} (P : X → Type 0) (xs : List X) (i : ℕ) (x : X) → All P xs → slice_get xs i ≡ Some x → P x
all_get P xs i x all is = subst P (get_or_from_slice_get xs i x x is) (all i x (slice_get_within xs i x is))

-- ---- the lists of a plan

-- a list of the plan is the driver's, or that of a caller
pub data IsListFor (session : Session) : ℕ → List Listed → Type 0 where
  driver : IsListFor session 0 (driver_plan is_response session.lines)
  caller : (k : ℕ) → k < session.callers → IsListFor session (suc k) (caller_plan session.lines (suc k))

driver_for : (session : Session) (list : List Listed) → driver_plan is_response session.lines ≡ list → IsListFor session 0 list
driver_for session list is = subst (λ (ls : List Listed). IsListFor session 0 ls) is driver

some_same : {X : Type 0} (x y : X) → Some x ≡ Some y → x ≡ y
some_same x y is = cc is

pub list_for : (session : Session) (actor : ℕ) (list : List Listed) → slice_get (plan_of is_response session) actor ≡ Some list → IsListFor session actor list
list_for session zero list get = driver_for session list (some_same (driver_plan is_response session.lines) list get)
list_for session (suc k) list get =
    let within : k < length (map (caller_plan session.lines) (range_with_len 1 session.callers)) = slice_get_within (map (caller_plan session.lines) (range_with_len 1 session.callers)) k list get in
    let less : k < session.callers = subst (λ (n : ℕ). k < n) (length-map-range_with_len (caller_plan session.lines) 1 session.callers) within in
    subst (λ (ls : List Listed). IsListFor session (suc k) ls) (some_same (caller_plan session.lines (suc k)) list (sym (caller_at session.lines session.callers k less) ∙ get)) (caller k less)

-- ---- gates

-- a line is found by its number, with its gate
abbrev IsFound : List Line → Line → Type 0
IsFound lines line = gate_of lines line.number ≡ line.gate

abbrev IsGatedBy : List Line → Listed → Type 0
IsGatedBy lines item = gate_of lines item.line ≡ item.after

all_found : (session : Session) → IsWellFormed session → All (IsFound session.lines) session.lines
all_found session formed = λ i line less. gate_at session.boot session.callers session.lines i (get_or session.lines i line) formed.lines (slice_get-get_or session.lines i line less)

events_gated_by : (lines : List Line) (line : Line) (w : Work) (rest : List Listed) → IsFound lines line → All (IsGatedBy lines) rest → All (IsGatedBy lines) (events_on line w ++ rest)
events_gated_by lines line (work.Driver what) rest found all = all
events_gated_by lines line (work.Caller own what) rest found all = All-cons (IsGatedBy lines) _ rest found all

events_gated : (lines own : List Line) → All (IsFound lines) own → All (IsGatedBy lines) (events_in own)
events_gated lines [] all = All-nil (IsGatedBy lines)
events_gated lines (line ∷ own) all =
    events_gated_by lines line line.work (events_in own) (All-head (IsFound lines) line own all) (events_gated lines own (All-tail (IsFound lines) line own all))

items_gated : (lines : List Line) (line : Line) (events : List DriverEvent) → IsFound lines line → All (IsGatedBy lines) (map plan_item (map (listed_for line) events))
items_gated lines line [] found = All-nil (IsGatedBy lines)
items_gated lines line (event ∷ events) found = All-cons (IsGatedBy lines) (plan_item (listed_for line event)) (map plan_item (map (listed_for line) events)) found (items_gated lines line events found)

driver_gated : (session : Session) (own : List Line) (streams : Streams) → IsWellFormed session → All (IsFound session.lines) own → All (IsGatedBy session.lines) (map plan_item (driver_list is_response streams own))
driver_gated session [] streams formed all =
    All-same (IsGatedBy session.lines) (map plan_item (driver_list is_response streams [])) (plan_item last_sweep ∷ []) (list_end is_response streams)
    (All-cons (IsGatedBy session.lines) (plan_item last_sweep) [] (no_gate session.boot session.callers session.lines formed.lines) (All-nil (IsGatedBy session.lines)))
driver_gated session (line ∷ own) streams formed all =
    let items : List Listed = map plan_item (map (listed_for line) (work_events is_response streams line.work)) in
    let rest : List Listed = map plan_item (driver_list is_response (work_streams is_response streams line.work) own) in
    All-same (IsGatedBy session.lines) (map plan_item (driver_list is_response streams (line ∷ own))) (items ++ rest) (list_more is_response streams line own)
    (All-append (IsGatedBy session.lines) items rest (items_gated session.lines line (work_events is_response streams line.work) (All-head (IsFound session.lines) line own all))
    (driver_gated session own (work_streams is_response streams line.work) formed (All-tail (IsFound session.lines) line own all)))

list_gated : (session : Session) (actor : ℕ) (list : List Listed) → IsWellFormed session → IsListFor session actor list → All (IsGatedBy session.lines) list
list_gated session _ _ formed driver = driver_gated session session.lines none_up formed (all_found session formed)
list_gated session _ _ formed (caller k less) =
    events_gated session.lines (lines_by (suc k) session.lines) (All-filter (λ (line : Line). is_of_caller (suc k) line.work) (IsFound session.lines) session.lines (all_found session formed))

-- a listed event of the plan is gated as its line is
pub plan_gated : (session : Session) → IsWellFormed session → (actor : ℕ) (list : List Listed) → slice_get (plan_of is_response session) actor ≡ Some list
    → (i : ℕ) (item : Listed) → slice_get list i ≡ Some item → gate_of session.lines item.line ≡ item.after
plan_gated session formed actor list get i item at = all_get (IsGatedBy session.lines) list i item (list_gated session actor list formed (list_for session actor list get)) at
