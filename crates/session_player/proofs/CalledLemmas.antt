-- Lines of callers.
use Rattle.std.proofs.Common.{◌≡◌, ◌<◌, ◌≤◌, ℕ, zero, suc, ◌+◌, ◌-◌, ◌&&◌, List, [], ◌∷◌, ◌++◌, length, map, take, drop, reverse, Bool, true, false, Option, Some, None, refl, sym, ap, ap₂, ◌∙◌, subst, arith, eq-eqb, not-suc-le-zero}
use Rattle.std.proofs.lemmas.Bool.{cond-true, cond-false}
use Rattle.std.specs.Prelude.{◌==◌}
use Rattle.std.specs.List.{slice_get}
use Rattle.std.proofs.lemmas.List.Sums.{sum_by-cons}
use Rattle.xc_base.specs.declared.call.Call.{Call}
use Rattle.call_journal.specs.declared.event.CallerEvent.{CallerEvent}
use Rattle.call_journal.specs.declared.reply.CallerReply.{CallerReply}
use Rattle.call_journal.specs.declared.entry.What.{What}
use Rattle.call_journal.specs.declared.entry.Entry.{Entry}
use Rattle.call_journal.specs.declared.plan.Count.{Count}
use Rattle.call_journal.specs.declared.plan.Listed.{Listed}
use Rattle.session_lines.specs.Before.{act_entries, entries, entries_of, is_started, starts}
use Rattle.session_lines.specs.declared.session.Act.{Act}
use Rattle.session_lines.specs.declared.session.Act.TheVariants as act
use Rattle.session_lines.specs.declared.session.Line.{Line}
use Rattle.session_lines.specs.declared.session.Session.{Session}
use Rattle.session_lines.specs.declared.session.Work.{Work}
use Rattle.session_lines.specs.declared.session.Work.TheVariants as work
use Rattle.session_script.specs.Plan.{Streams, is_of_caller, lines_by, listed_for, work_events, work_streams}
use Rattle.session_plan.specs.PlanOfSession.{act_event, caller_plan, events_in, events_on, plan_item, plan_of}
use Rattle.session_plan.specs.ReadablePayloads.{is_response}
use Rattle.session_plan.proofs.DriverLemmas.{list_more}
use Rattle.session_plan.proofs.LawProofs.{caller_at}
use Rattle.book_progress.specs.ActorCounts.{count_after, count_of, with_ended, with_pin, without_pin}
use Rattle.book_progress.specs.EndedLines.{IsOpen, ends_line, has_ended}
use Rattle.book_progress.specs.PlayedPlans.{IsCallStep, IsNextOf, IsStep, Step, caller}
use Rattle.book_progress.specs.ProgressKept.{most_entries}
use Rattle.session_shape.specs.SessionShape.{IsCalled, IsWellFormed, IsWork}
use Rattle.session_player.specs.LineProgress.{HaveLeft, IsAtLine, IsCalling, has_begun, is_begun, left_of}
use Rattle.session_player.proofs.BegunLemmas.{begun_next, begun_twice, starts_own}
use Rattle.session_player.proofs.DrivenLemmas.{other_count, own_count}
use Rattle.session_player.proofs.LeftLemmas.{next_of, one_left, same_left}
use Rattle.session_player.proofs.OpenLemmas.{EndsIts, IsGateOpen, ended_more, ended_next, open_at, open_more, or_right, still_open}
use Rattle.session_player.proofs.ShapeLemmas.{IsPlaced, drop_at, gate_at, line_at, line_behind, number_at}

-- ---- the line of a caller

called_work : (session : Session) (place : ℕ) (line : Line) (number : ℕ) (what : Act) → IsWellFormed session → IsCalling session place line number what → (past : List Line) × IsCalled session.callers past number what
called_work session place line number what formed calling =
    let placed = line_at session.boot session.callers session.lines place line formed.lines calling.line_is in
    (placed.past, subst (λ (w : Work). IsWork session.boot session.callers placed.past w) calling.work_is placed.is.work_is)

pub caller_within : (session : Session) (place : ℕ) (line : Line) (number : ℕ) (what : Act) → IsWellFormed session → IsCalling session place line number what → (1 ≤ number) × (number ≤ session.callers)
caller_within session place line number what formed calling = let c = called_work session place line number what formed calling in (c.1.least, c.1.most)

abbrev item_for : Line → Act → Listed
item_for line what = record { line = line.number; after = line.gate; event = act_event what }

abbrev streams_behind : (session : Session) (place : ℕ) (line : Line) (history : List Entry) → IsAtLine session place history → Streams
streams_behind session place line history at = work_streams is_response at.streams line.work

-- what the caller has left
own_left : (streams after : Streams) (line : Line) (rest : List Line) (number : ℕ) (what : Act) → 1 ≤ number → line.work ≡ work.Caller number what
    → left_of streams (line ∷ rest) number ≡ item_for line what ∷ left_of after rest number
own_left streams after line rest zero what least is = absurd (not-suc-le-zero least)
own_left streams after line rest (suc k) what least is =
    ap events_in (cond-true (is_of_caller (suc k) line.work) (line ∷ lines_by (suc k) rest) (lines_by (suc k) rest) (ap (is_of_caller (suc k)) is ∙ eq-eqb (suc k) (suc k) refl))
    ∙ ap (λ (w : Work). events_on line w ++ events_in (lines_by (suc k) rest)) is

-- and each other actor
others_left : (streams : Streams) (line : Line) (rest : List Line) (number : ℕ) (what : Act) → line.work ≡ work.Caller number what → (k : ℕ) → (number == k) ≡ false
    → left_of streams (line ∷ rest) k ≡ left_of (work_streams is_response streams line.work) rest k
others_left streams line rest number what is zero other =
    list_more is_response streams line rest
    ∙ ap (λ (w : Work). map plan_item (map (listed_for line) (work_events is_response streams w)) ++ left_of (work_streams is_response streams line.work) rest 0) is
others_left streams line rest number what is (suc k) other =
    ap events_in (cond-false (is_of_caller (suc k) line.work) (line ∷ lines_by (suc k) rest) (lines_by (suc k) rest) (ap (is_of_caller (suc k)) is ∙ other))

list_of : (session : Session) (number : ℕ) → 1 ≤ number → number ≤ session.callers → slice_get (plan_of is_response session) number ≡ Some (caller_plan session.lines number)
list_of session zero least most = absurd (not-suc-le-zero least)
list_of session (suc k) least most = caller_at session.lines session.callers k most

-- ---- its event comes next

called_gate : (session : Session) (place : ℕ) (line : Line) (history : List Entry) → IsWellFormed session → slice_get session.lines place ≡ Some line → IsAtLine session place history → IsGateOpen line.gate history
called_gate session place line history formed get at =
    let placed = line_at session.boot session.callers session.lines place line formed.lines get in
    open_at place line.number line.gate history (number_at session.boot session.callers place line placed) placed.is.gate_is at.ended

pub called_next : (session : Session) (place : ℕ) (line : Line) (number : ℕ) (what : Act) (event : CallerEvent) (history : List Entry) → IsWellFormed session → IsCalling session place line number what
    → IsAtLine session place history → IsCallStep event (act_event what) 0 → IsNextOf (plan_of is_response session) number (count_of number history) line.number (caller event) history
called_next session place line number what event history formed calling at step =
    let within = caller_within session place line number what formed calling in
    let rest : List Line = drop (place + 1) session.lines in
    next_of (plan_of is_response session) (left_of at.streams (drop place session.lines)) number (caller_plan session.lines number) (item_for line what) (left_of at.streams rest number) line.number (caller event) history
    at.left (list_of session number within.0 within.1)
    (ap (λ (ls : List Line). left_of at.streams ls number) (drop_at session.lines place line calling.line_is) ∙ own_left at.streams at.streams line rest number what within.0 calling.work_is)
    refl step (called_gate session place line history formed calling.line_is at).0

-- a call that is started hasn't begun
pub start_is_new : (session : Session) (place : ℕ) (line : Line) (number : ℕ) (call : Call) (history : List Entry) → IsWellFormed session → IsCalling session place line number (act.Start call)
    → IsAtLine session place history → has_begun call.id.0 history ≡ false
start_is_new session place line number call history formed calling at =
    let behind = line_behind session.boot session.callers session.lines place line formed.lines calling.line_is in
    let called : IsCalled session.callers (reverse (take place session.lines)) number (act.Start call) =
    subst (λ (w : Work). IsWork session.boot session.callers (reverse (take place session.lines)) w) calling.work_is behind.work_is in
    at.begun call.id.0 (called.new refl)

-- ---- after it

left_behind : (session : Session) (place : ℕ) (line : Line) (number : ℕ) (what : Act) (history new : List Entry) → IsWellFormed session → IsCalling session place line number what → (at : IsAtLine session place history)
    → count_of number new ≡ with_ended (count_of number history) → ((k : ℕ) → (number == k) ≡ false → count_of k new ≡ count_of k history)
    → HaveLeft (plan_of is_response session) (left_of (work_streams is_response at.streams line.work) (drop (place + 1) session.lines)) new
left_behind session place line number what history new formed calling at counted kept =
    let within = caller_within session place line number what formed calling in
    let rest : List Line = drop (place + 1) session.lines in
    let after : Streams = work_streams is_response at.streams line.work in
    let here : drop place session.lines ≡ line ∷ rest = drop_at session.lines place line calling.line_is in
    one_left (plan_of is_response session) (left_of at.streams (drop place session.lines)) (left_of after rest) number (item_for line what) history new at.left
    (ap (λ (ls : List Line). left_of at.streams ls number) here ∙ own_left at.streams after line rest number what within.0 calling.work_is)
    (λ k other. ap (λ (ls : List Line). left_of at.streams ls k) here ∙ others_left at.streams line rest number what calling.work_is k other)
    counted kept

pub call_few : (session : Session) (place : ℕ) (line : Line) (number : ℕ) (what : Act) (history : List Entry) → IsCalling session place line number what → IsAtLine session place history
    → length history + (act_entries what + (entries (drop (place + 1) session.lines) + 1)) ≤ most_entries
call_few session place line number what history calling at =
    let rest : List Line = drop (place + 1) session.lines in
    let here : drop place session.lines ≡ line ∷ rest = drop_at session.lines place line calling.line_is in
    let sum : entries (line ∷ rest) ≡ entries_of line.work + entries rest = sum_by-cons (λ x. entries_of x.work) line rest in
    let own : entries_of line.work ≡ act_entries what = ap entries_of calling.work_is in
    let before : length history + (entries (line ∷ rest) + 1) ≤ most_entries = subst (λ (ls : List Line). length history + (entries ls + 1) ≤ most_entries) here at.few in
    omega (arith, before, sum, own)

abbrev entry_at : ℕ → Line → What → Entry
entry_at number line what = record { actor = number; line = line.number; what = what }

one_more : (w : Act) → 1 ≤ act_entries w
one_more (act.Start call) = omega arith
one_more (act.Pick call word) = omega arith
one_more (act.Commit call) = omega arith

-- one entry ends the line
pub called_ends : (session : Session) (place : ℕ) (line : Line) (number : ℕ) (doing : Act) (what : What) (history : List Entry) → IsWellFormed session → IsCalling session place line number doing
    → IsAtLine session place history → count_after what (count_of number history) ≡ with_ended (count_of number history) → EndsIts what
    → ((id : ℕ) → starts id line.work ≡ false → is_begun id what ≡ false) → IsAtLine session (place + 1) (entry_at number line what ∷ history)
called_ends session place line number doing what history formed calling at counted ends none =
    let placed = line_at session.boot session.callers session.lines place line formed.lines calling.line_is in
    let few = call_few session place line number doing history calling at in
    let one = one_more doing in
    record {
      streams = work_streams is_response at.streams line.work;
      left = left_behind session place line number doing history (entry_at number line what ∷ history) formed calling at (own_count number line.number what history ∙ counted) (other_count number line.number what history);
      ended = ended_next place (entry_at number line what) history at.ended (number_at session.boot session.callers place line placed) ends;
      opened = open_more session.lines (entry_at number line what) history line.gate (gate_at session.boot session.callers session.lines place line formed.lines calling.line_is)
          (called_gate session place line history formed calling.line_is at) at.opened;
      begun = begun_next session place line (entry_at number line what) history calling.line_is none at.begun;
      few = omega (arith, few, one);
    }

-- ---- a start with a snapshot: a pin and a hold

abbrev pin_at : ℕ → Line → Call → ℕ → Entry
pin_at number line call snapshot = entry_at number line (What.Caller (CallerEvent.Pin call) (CallerReply.Pinned snapshot))

-- a gate stays open
open_still : (gate : Option ℕ) (e : Entry) (past : List Entry) → IsOpen gate past → IsOpen gate (e ∷ past)
open_still None e past opens = tt
open_still (Some line) e past opens = or_right ((e.line == line) && ends_line e.what) (has_ended line past) opens

pub hold_next : (session : Session) (place : ℕ) (line : Line) (number : ℕ) (call : Call) (snapshot : ℕ) (history : List Entry) → IsWellFormed session → IsCalling session place line number (act.Start call)
    → IsAtLine session place history
    → IsNextOf (plan_of is_response session) number (count_of number (pin_at number line call snapshot ∷ history)) line.number (caller (CallerEvent.Hold call)) (pin_at number line call snapshot ∷ history)
hold_next session place line number call snapshot history formed calling at =
    let before = called_next session place line number (act.Start call) (CallerEvent.Pin call) history formed calling at (refl, refl) in
    let pinned : count_of number (pin_at number line call snapshot ∷ history) ≡ with_pin (count_of number history) =
    own_count number line.number (What.Caller (CallerEvent.Pin call) (CallerReply.Pinned snapshot)) history in
    let up : (count_of number (pin_at number line call snapshot ∷ history)).pins ≡ 1 = ap (λ (c : Count). c.pins) pinned ∙ ap (λ (n : ℕ). n + 1) (at.left.pins number) in
    record {
      listed = before.listed;
      is = record {
        list = before.is.list;
        actor_is = before.is.actor_is;
        next_is = subst (λ (n : ℕ). slice_get before.is.list n ≡ Some before.listed) (sym (ap (λ (c : Count). c.ended) pinned)) before.is.next_is;
      };
      line_is = before.line_is;
      step_is = (before.step_is.0, up);
      gate = open_still before.listed.after (pin_at number line call snapshot) history before.gate;
    }

held_count : (c : Count) → without_pin (with_pin c) ≡ with_ended c
held_count c = let same : c.pins + 1 - 1 ≡ c.pins = omega arith in ap (λ (n : ℕ). record { ended = c.ended + 1; pins = n }) same

pub hold_ends : (session : Session) (place : ℕ) (line : Line) (number : ℕ) (call : Call) (snapshot : ℕ) (reply : CallerReply) (history : List Entry) → IsWellFormed session
    → IsCalling session place line number (act.Start call) → IsAtLine session place history
    → IsAtLine session (place + 1) (entry_at number line (What.Caller (CallerEvent.Hold call) reply) ∷ pin_at number line call snapshot ∷ history)
hold_ends session place line number call snapshot reply history formed calling at =
    let placed = line_at session.boot session.callers session.lines place line formed.lines calling.line_is in
    let few = call_few session place line number (act.Start call) history calling at in
    let gate = gate_at session.boot session.callers session.lines place line formed.lines calling.line_is in
    let opens = called_gate session place line history formed calling.line_is at in
    let pin : Entry = pin_at number line call snapshot in
    let hold : Entry = entry_at number line (What.Caller (CallerEvent.Hold call) reply) in
    let pinned : count_of number (pin ∷ history) ≡ with_pin (count_of number history) = own_count number line.number (What.Caller (CallerEvent.Pin call) (CallerReply.Pinned snapshot)) history in
    record {
      streams = work_streams is_response at.streams line.work;
      left = left_behind session place line number (act.Start call) history (hold ∷ pin ∷ history) formed calling at
          (own_count number line.number (What.Caller (CallerEvent.Hold call) reply) (pin ∷ history) ∙ (ap without_pin pinned ∙ held_count (count_of number history)))
          (λ k other. other_count number line.number (What.Caller (CallerEvent.Hold call) reply) (pin ∷ history) k other
          ∙ other_count number line.number (What.Caller (CallerEvent.Pin call) (CallerReply.Pinned snapshot)) history k other);
      ended = ended_next place hold (pin ∷ history) (ended_more (place + 5) pin history at.ended) (number_at session.boot session.callers place line placed) (record { planned = refl; lawful = refl });
      opened = open_more session.lines hold (pin ∷ history) line.gate gate (still_open line.gate pin history opens) (open_more session.lines pin history line.gate gate opens at.opened);
      begun = begun_twice session place line pin hold history calling.line_is
          (λ id new. starts_own id number call line.work calling.work_is new) (λ id new. starts_own id number call line.work calling.work_is new) at.begun;
      few = omega (arith, few);
    }
