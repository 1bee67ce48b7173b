-- The gate of each listed event is that of its line, and is open where the entry of the event stands.
use Rattle.std.proofs.Common.{◌≡◌, ◌≤◌, ◌+◌, ℕ, suc, List, [], ◌∷◌, ◌++◌, length, map, All, Bool, true, false, ◌&&◌, ◌||◌, Option, Some, None, option_and_then, refl, ap, ◌∙◌, subst, eq-eqb, arith}
use Rattle.std.specs.Prelude.{◌==◌}
use Rattle.std.specs.List.{find, slice_get}
use Rattle.std.proofs.lemmas.Bool.{cond-true, cond-false}
use Rattle.std.proofs.lemmas.Bool.Decides.{nat_tests}
use Rattle.std.proofs.lemmas.List.Elements.{All-append, All-cons, All-filter, All-head, All-nil, All-same, All-tail}
use Rattle.std.proofs.lemmas.Option.{get_or_from_slice_get, slice_get_within}
use Rattle.xds_bootstrap.specs.declared.bootstrap.Bootstrap.{Bootstrap}
use Rattle.call_journal.specs.declared.event.CallerEvent.{CallerEvent}
use Rattle.call_journal.specs.declared.event.DriverEvent.{DriverEvent}
use Rattle.call_journal.specs.declared.reply.CallerReply.{CallerReply}
use Rattle.call_journal.specs.declared.entry.Entry.{Entry}
use Rattle.call_journal.specs.declared.entry.What.{What}
use Rattle.call_journal.specs.declared.plan.Listed.{Listed}
use Rattle.session_lines.specs.declared.session.Line.{Line}
use Rattle.session_lines.specs.declared.session.Session.{Session}
use Rattle.session_lines.specs.declared.session.Work.{Work}
use Rattle.session_lines.specs.declared.session.Work.TheVariants as work
use Rattle.session_script.specs.Plan.{Streams, driver_list, is_of_caller, last_sweep, lines_by, listed_for, none_up, work_events, work_streams}
use Rattle.legal_plan.specs.session_plan.PlanOfSession.{events_in, events_on, plan_item}
use Rattle.legal_plan.specs.session_plan.ReadablePayloads.{is_response}
use Rattle.legal_plan.proofs.session_plan.DriverLemmas.{list_end, list_more}
use Rattle.legal_plan.specs.legal_history.Legal as legal
use Rattle.legal_plan.specs.legal_history.Legal.{AreOpen, gate_of}
use Rattle.session_shape.specs.SessionShape.{AreLines}
use Rattle.book_progress.specs.EndedLines.{IsOpen, ends_line, has_ended}
use Rattle.next_law.proofs.ListLemmas.{IsListFor, caller, driver}

-- ---- lines by their numbers

-- a line is found by its number, with its gate
abbrev IsFound : List Line → Line → Type 0
IsFound lines line = gate_of lines line.number ≡ line.gate

-- lines behind so many have numbers above theirs
numbers_from : (boot : Bootstrap) (callers n : ℕ) (before lines : List Line) → n ≤ length before → AreLines boot callers before lines → All (λ line. n + 5 ≤ line.number) lines
numbers_from boot callers n before [] few are = All-nil (λ (line : Line). n + 5 ≤ line.number)
numbers_from boot callers n before (l ∷ ls) few are =
    let here : l.number ≡ length before + 5 = are.0.number_is in
    let first : n + 5 ≤ l.number = omega (arith, here, few) in
    let longer : n ≤ length (l ∷ before) = omega (arith, few) in
    All-cons (λ (line : Line). n + 5 ≤ line.number) l ls first (numbers_from boot callers n (l ∷ before) ls longer are.1)

found_first : (l : Line) (ls : List Line) → IsFound (l ∷ ls) l
found_first l ls =
    ap (λ (found : Option Line). option_and_then (λ (x : Line). x.gate) found) (cond-true (l.number == l.number) (Some l) (find (λ x. x.number == l.number) ls) (eq-eqb l.number l.number refl))

-- a line before another number is passed over
passed : (l : Line) (ls : List Line) (number : ℕ) → (l.number == number) ≡ false → gate_of (l ∷ ls) number ≡ gate_of ls number
passed l ls number other =
    ap (λ (found : Option Line). option_and_then (λ (x : Line). x.gate) found) (cond-false (l.number == number) (Some l) (find (λ x. x.number == number) ls) other)

found_later : (l : Line) (ls own : List Line) (n : ℕ) → l.number ≡ n + 5 → All (λ line. suc n + 5 ≤ line.number) own → All (IsFound ls) own → All (IsFound (l ∷ ls)) own
found_later l ls [] n is above all = All-nil (IsFound (l ∷ ls))
found_later l ls (line ∷ own) n is above all =
    let least : suc n + 5 ≤ line.number = All-head (λ (x : Line). suc n + 5 ≤ x.number) line own above in
    let other : (l.number == line.number) ≡ false = grind (arith, nat_tests, is, least) in
    All-cons (IsFound (l ∷ ls)) line own (passed l ls line.number other ∙ All-head (IsFound ls) line own all)
    (found_later l ls own n is (All-tail (λ (x : Line). suc n + 5 ≤ x.number) line own above) (All-tail (IsFound ls) line own all))

all_found : (boot : Bootstrap) (callers : ℕ) (before lines : List Line) → AreLines boot callers before lines → All (IsFound lines) lines
all_found boot callers before [] are = All-nil (IsFound [])
all_found boot callers before (l ∷ ls) are =
    All-cons (IsFound (l ∷ ls)) l ls (found_first l ls)
    (found_later l ls ls (length before) are.0.number_is (numbers_from boot callers (suc (length before)) (l ∷ before) ls (omega arith) are.1) (all_found boot callers (l ∷ before) ls are.1))

-- no line has the number of the last sweep
no_gate : (boot : Bootstrap) (callers : ℕ) (before lines : List Line) → AreLines boot callers before lines → gate_of lines 0 ≡ None
no_gate boot callers before [] are = refl
no_gate boot callers before (l ∷ ls) are =
    let here : l.number ≡ length before + 5 = are.0.number_is in
    let other : (l.number == 0) ≡ false = grind (arith, nat_tests, here) in
    passed l ls 0 other ∙ no_gate boot callers (l ∷ before) ls are.1

-- ---- gates of listed events

abbrev IsGatedBy : List Line → Listed → Type 0
IsGatedBy lines item = gate_of lines item.line ≡ item.after

events_gated_by : (lines : List Line) (line : Line) (w : Work) (rest : List Listed) → IsFound lines line → All (IsGatedBy lines) rest → All (IsGatedBy lines) (events_on line w ++ rest)
events_gated_by lines line (work.Driver what) rest found all = all
events_gated_by lines line (work.Caller own what) rest found all = All-cons (IsGatedBy lines) _ rest found all

events_gated : (lines own : List Line) → All (IsFound lines) own → All (IsGatedBy lines) (events_in own)
events_gated lines [] all = All-nil (IsGatedBy lines)
events_gated lines (line ∷ own) all =
    events_gated_by lines line line.work (events_in own) (All-head (IsFound lines) line own all) (events_gated lines own (All-tail (IsFound lines) line own all))

items_gated : (lines : List Line) (line : Line) (events : List DriverEvent) → IsFound lines line → All (IsGatedBy lines) (map plan_item (map (listed_for line) events))
items_gated lines line [] found = All-nil (IsGatedBy lines)
items_gated lines line (event ∷ events) found = All-cons (IsGatedBy lines) (plan_item (listed_for line event)) (map plan_item (map (listed_for line) events)) found (items_gated lines line events found)

driver_gated : (lines own : List Line) (streams : Streams) → gate_of lines 0 ≡ None → All (IsFound lines) own → All (IsGatedBy lines) (map plan_item (driver_list is_response streams own))
driver_gated lines [] streams none all =
    All-same (IsGatedBy lines) (map plan_item (driver_list is_response streams [])) (plan_item last_sweep ∷ []) (list_end is_response streams)
    (All-cons (IsGatedBy lines) (plan_item last_sweep) [] none (All-nil (IsGatedBy lines)))
driver_gated lines (line ∷ own) streams none all =
    let items : List Listed = map plan_item (map (listed_for line) (work_events is_response streams line.work)) in
    let rest : List Listed = map plan_item (driver_list is_response (work_streams is_response streams line.work) own) in
    All-same (IsGatedBy lines) (map plan_item (driver_list is_response streams (line ∷ own))) (items ++ rest) (list_more is_response streams line own)
    (All-append (IsGatedBy lines) items rest (items_gated lines line (work_events is_response streams line.work) (All-head (IsFound lines) line own all))
    (driver_gated lines own (work_streams is_response streams line.work) none (All-tail (IsFound lines) line own all)))

list_gated : (session : Session) (actor : ℕ) (list : List Listed) → AreLines session.boot session.callers [] session.lines → IsListFor session actor list → All (IsGatedBy session.lines) list
list_gated session _ _ are driver =
    driver_gated session.lines session.lines none_up (no_gate session.boot session.callers [] session.lines are) (all_found session.boot session.callers [] session.lines are)
list_gated session _ _ are (caller k less) =
    events_gated session.lines (lines_by (suc k) session.lines)
    (All-filter (λ (line : Line). is_of_caller (suc k) line.work) (IsFound session.lines) session.lines (all_found session.boot session.callers [] session.lines are))

-- a listed event is gated as its line is
pub list_gate : (session : Session) (actor : ℕ) (list : List Listed) → AreLines session.boot session.callers [] session.lines → IsListFor session actor list
    → (i : ℕ) (item : Listed) → slice_get list i ≡ Some item → gate_of session.lines item.line ≡ item.after
list_gate session actor list are for i item at =
    subst (IsGatedBy session.lines) (get_or_from_slice_get list i item item at) (list_gated session actor list are for i item (slice_get_within list i item at))

-- ---- open gates

-- an entry that ends its line by the definition of legal histories does so by that of what has been played
ends_alike : (what : What) → legal.ends_line what ≡ true → ends_line what ≡ true
ends_alike (What.Driver (DriverEvent.Opened a) reply) is = refl
ends_alike (What.Driver (DriverEvent.Response a payload) reply) is = absurd (cc is)
ends_alike (What.Driver (DriverEvent.Bytes a how) reply) is = refl
ends_alike (What.Driver (DriverEvent.Lost a) reply) is = refl
ends_alike (What.Driver (DriverEvent.Moment time) reply) is = refl
ends_alike (What.Driver (DriverEvent.Endpoint address state) reply) is = refl
ends_alike (What.Driver DriverEvent.Sweep reply) is = refl
ends_alike (What.Caller (CallerEvent.Pin call) (CallerReply.Pinned number)) is = absurd (cc is)
ends_alike (What.Caller (CallerEvent.Pin call) CallerReply.NoSnapshot) is = refl
ends_alike (What.Caller (CallerEvent.Pin call) (CallerReply.Routed number answer)) is = refl
ends_alike (What.Caller (CallerEvent.Pin call) (CallerReply.Endpoint number child locality place)) is = refl
ends_alike (What.Caller (CallerEvent.Pin call) (CallerReply.Queue number)) is = refl
ends_alike (What.Caller (CallerEvent.Pin call) (CallerReply.Fail number reason)) is = refl
ends_alike (What.Caller (CallerEvent.Pin call) (CallerReply.Drop number rule)) is = refl
ends_alike (What.Caller (CallerEvent.Pin call) CallerReply.NotHeld) is = refl
ends_alike (What.Caller (CallerEvent.Pin call) CallerReply.Released) is = refl
ends_alike (What.Caller (CallerEvent.Hold call) reply) is = refl
ends_alike (What.Caller (CallerEvent.Pick id word) reply) is = refl
ends_alike (What.Caller (CallerEvent.Commit id) reply) is = refl

either_alike : (a b c d e : Bool) → (b ≡ true → c ≡ true) → (d ≡ true → e ≡ true) → ((a && b) || d) ≡ true → ((a && c) || e) ≡ true
either_alike true true c d e f g is = let h : c ≡ true = f refl in cc h
either_alike true false c d e f g is = let h : e ≡ true = g is in right c e h
  where
    right : (x y : Bool) → y ≡ true → (x || y) ≡ true
    right true y h = refl
    right false y h = h
either_alike false b c d e f g is = g is

ended_alike : (line : ℕ) (history : List Entry) → legal.has_ended line history ≡ true → has_ended line history ≡ true
ended_alike line [] is = absurd (cc is)
ended_alike line (e ∷ past) is =
    either_alike (e.line == line) (legal.ends_line e.what) (ends_line e.what) (legal.has_ended line past) (has_ended line past) (ends_alike e.what) (ended_alike line past) is

pub open_alike : (gate : Option ℕ) (history : List Entry) → legal.IsOpen gate history → IsOpen gate history
open_alike None history is = tt
open_alike (Some line) history is = ended_alike line history is

-- the gate of an entry is open behind its past
pub open_at : (lines : List Line) (later past : List Entry) (e : Entry) → AreOpen lines (later ++ e ∷ past) → legal.IsOpen (gate_of lines e.line) past
open_at lines [] past e opened = opened.0
open_at lines (x ∷ xs) past e opened = open_at lines xs past e opened.1
