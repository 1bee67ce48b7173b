-- At the end of a legal history all that is listed has ended, and before its last sweep all but the sweep.
use Rattle.std.proofs.Common.{◌≡◌, ◌+◌, ◌≤◌, ℕ, suc, List, [], ◌∷◌, ◌++◌, length, All, Bool, true, false, eq-eqb, Option, Some, refl, sym, ap, ◌∙◌, subst, arith}
use Rattle.std.specs.Prelude.{reverse, ◌==◌}
use Rattle.std.specs.List.{slice_get}
use Rattle.std.proofs.lemmas.Bool.{cond-false, cond-true}
use Rattle.std.proofs.lemmas.Bool.Decides.{nat_tests}
use Rattle.std.proofs.lemmas.List.Elements.{All-cons, All-nil}
use Rattle.std.proofs.lemmas.Option.{get_or_from_slice_get, slice_get_within}
use Rattle.call_journal.specs.declared.event.DriverEvent.{DriverEvent}
use Rattle.call_journal.specs.declared.entry.Entry.{Entry}
use Rattle.call_journal.specs.declared.entry.What.{What}
use Rattle.call_journal.specs.declared.plan.Listed.{Listed}
use Rattle.call_journal.specs.declared.plan.ListedEvent.{ListedEvent}
use Rattle.session_lines.specs.declared.session.Act.{Act}
use Rattle.session_lines.specs.declared.session.Act.TheVariants as act
use Rattle.session_lines.specs.declared.session.Line.{Line}
use Rattle.session_lines.specs.declared.session.Session.{Session}
use Rattle.session_lines.specs.declared.session.Work.{Work}
use Rattle.session_lines.specs.declared.session.Work.TheVariants as work
use Rattle.session_script.specs.Plan.{driver_event, entries_by, lines_by}
use Rattle.legal_plan.specs.session_plan.PlanOfSession.{act_event, events_in, events_on, plan_of}
use Rattle.legal_plan.specs.session_plan.ReadablePayloads.{is_response}
use Rattle.legal_plan.specs.legal_history.Legal.{Legal}
use Rattle.book_progress.specs.ActorCounts.{count_after, count_of, with_ended}
use Rattle.book_progress.specs.PlayedPlans.{IsStep, all_ended, step_in}
use Rattle.next_law.specs.NextLaw.{EndOfLegal}
use Rattle.next_law.proofs.CountLemmas.{count_is, one_counts}
use Rattle.next_law.proofs.PlayLemmas.{IsNextIn, count, ended_in}
use Rattle.next_law.proofs.ListLemmas.{IsListFor, caller, driver, list_for, list_of, list_plays}
use Rattle.next_law.proofs.NextProofs.{actor_few, own_next}

-- ---- all has ended

from_none : (n : ℕ) → 0 + n ≡ n
from_none n = omega arith

all_end : (session : Session) (history : List Entry) → Legal session history → (actor : ℕ) (list : List Listed) → slice_get (plan_of is_response session) actor ≡ Some list
    → count_of actor history ≡ all_ended list
all_end session history h actor list get =
    count_is actor history
    ∙ (ended_in list (entries_by actor (reverse history)) 0 (list_plays session actor list (reverse history) (list_for session actor list get) h.listed (h.started actor))
    ∙ ap (λ (k : ℕ). count k 0) (from_none (length list)))

-- ---- the last sweep is the driver's

abbrev is_driven : ListedEvent → Bool
is_driven (ListedEvent.Driver event) = true
is_driven _ = false

abbrev IsCalled : Listed → Type 0
IsCalled item = is_driven item.event ≡ false

act_called : (what : Act) → is_driven (act_event what) ≡ false
act_called (act.Start call) = refl
act_called (act.Pick id word) = refl
act_called (act.Commit id) = refl

line_called : (line : Line) (w : Work) (rest : List Listed) → All IsCalled rest → All IsCalled (events_on line w ++ rest)
line_called line (work.Driver what) rest all = all
line_called line (work.Caller own what) rest all = All-cons IsCalled _ rest (act_called what) all

events_called : (lines : List Line) → All IsCalled (events_in lines)
events_called [] = All-nil IsCalled
events_called (line ∷ lines) = line_called line line.work (events_in lines) (events_called lines)

not_called : (what : What) (event : DriverEvent) (item : Listed) (pins : ℕ) → driver_event what ≡ Some event → IsStep (step_in what) item.event pins → IsCalled item → ⊥
not_called (What.Driver other reply) event item pins is step called =
    let driven : item.event ≡ ListedEvent.Driver other = step.0 in
    let k : is_driven item.event ≡ true = ap is_driven driven in
    absurd (cc (k, called))
not_called (What.Caller other reply) event item pins is step called = absurd (cc is)

-- who plays an event of the driver is actor 0
drives : (session : Session) (actor : ℕ) (list : List Listed) (what : What) (event : DriverEvent) (i : ℕ) (item : Listed) (pins : ℕ) → IsListFor session actor list
    → slice_get list i ≡ Some item → IsStep (step_in what) item.event pins → driver_event what ≡ Some event → actor ≡ 0
drives session _ _ what event i item pins driver at step is = refl
drives session _ _ what event i item pins (caller k less) at step is =
    let own : List Line = lines_by (suc k) session.lines in
    let called : IsCalled item = subst IsCalled (get_or_from_slice_get (events_in own) i item item at) (events_called own i item (slice_get_within (events_in own) i item at)) in
    absurd (not_called what event item pins is step called)

sweeps : (session : Session) (past : List Entry) (sweep : Entry) → Legal session (sweep ∷ past) → driver_event sweep.what ≡ Some DriverEvent.Sweep
sweeps session past sweep h = ap (λ (x : ℕ × Option DriverEvent). x.1) h.ends

sweep_own : (session : Session) (past : List Entry) (sweep : Entry) → Legal session (sweep ∷ past) → sweep.actor ≡ 0
sweep_own session past sweep h =
    let own = list_of session sweep.actor (actor_few session [] past sweep h) in
    let next : IsNextIn own.0 (count_of sweep.actor past) sweep = own_next session [] past sweep own.0 h own.1 in
    drives session sweep.actor own.0 sweep.what DriverEvent.Sweep (count_of sweep.actor past).ended next.listed (count_of sweep.actor past).pins (list_for session sweep.actor own.0 own.1) next.get next.step
    (sweeps session past sweep h)

-- ---- before the last sweep

-- the count of another actor stays
count_before : (past : List Entry) (sweep : Entry) (actor : ℕ) → sweep.actor ≡ 0 → 1 ≤ actor → count_of actor past ≡ count_of actor (sweep ∷ past)
count_before past sweep actor own least =
    let other : (sweep.actor == actor) ≡ false = grind (arith, nat_tests, own, least) in
    sym (cond-false (sweep.actor == actor) (count_after sweep.what (count_of actor past)) (count_of actor past) other)

-- the driver counts one event more
driver_before : (past : List Entry) (sweep : Entry) → sweep.actor ≡ 0 → driver_event sweep.what ≡ Some DriverEvent.Sweep → with_ended (count_of 0 past) ≡ count_of 0 (sweep ∷ past)
driver_before past sweep own is =
    sym (cond-true (sweep.actor == 0) (count_after sweep.what (count_of 0 past)) (count_of 0 past) (eq-eqb sweep.actor 0 own)
    ∙ one_counts (ListedEvent.Driver DriverEvent.Sweep) sweep.what (count_of 0 past) is)

pub end_of_legal : EndOfLegal
end_of_legal session past sweep h =
    let own : sweep.actor ≡ 0 = sweep_own session past sweep h in
    record {
      actor_is = own;
      callers = λ actor list least get. count_before past sweep actor own least ∙ all_end session (sweep ∷ past) h actor list get;
      driver = λ list get. driver_before past sweep own (sweeps session past sweep h) ∙ all_end session (sweep ∷ past) h 0 list get;
      each = all_end session (sweep ∷ past) h;
    }
