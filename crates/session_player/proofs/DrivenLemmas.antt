-- Lines of the driver, event by event.
use Rattle.std.proofs.Common.{◌≡◌, ◌<◌, ◌≤◌, ℕ, zero, suc, ◌+◌, List, [], ◌∷◌, ◌++◌, length, map, drop, All, Bool, true, false, Option, Some, None, refl, sym, ap, ap₂, ◌∙◌, subst, arith, eq-eqb}
use Rattle.std.proofs.lemmas.Bool.{cond-true, cond-false}
use Rattle.std.specs.Prelude.{◌==◌}
use Rattle.std.specs.List.{slice_get}
use Rattle.std.proofs.lemmas.List.Elements.{All-head, All-same, All-tail}
use Rattle.std.proofs.lemmas.List.Sums.{sum_by-cons}
use Rattle.std.proofs.lemmas.Option.{slice_get_within}
use Rattle.call_journal.specs.declared.event.DriverEvent.{DriverEvent}
use Rattle.call_journal.specs.declared.reply.DriverReply.{DriverReply}
use Rattle.call_journal.specs.declared.entry.What.{What}
use Rattle.call_journal.specs.declared.entry.Entry.{Entry}
use Rattle.call_journal.specs.declared.plan.Listed.{Listed}
use Rattle.call_journal.specs.declared.plan.ListedEvent.{ListedEvent}
use Rattle.session_lines.specs.Before.{entries, entries_of}
use Rattle.session_lines.specs.declared.session.DriverLine.{DriverLine}
use Rattle.session_lines.specs.declared.session.Line.{Line}
use Rattle.session_lines.specs.declared.session.Session.{Session}
use Rattle.session_lines.specs.declared.session.Work.{Work}
use Rattle.session_lines.specs.declared.session.Work.TheVariants as work
use Rattle.session_script.specs.Plan.{Streams, events_of, is_of_caller, lines_by, listed_for, work_events, work_streams}
use Rattle.session_plan.specs.PlanOfSession.{driver_plan, events_in, plan_item, plan_of}
use Rattle.session_plan.specs.ReadablePayloads.{is_response}
use Rattle.session_plan.proofs.DriverLemmas.{list_more}
use Rattle.legal_plan.specs.legal_history.Legal.{AreOpen}
use Rattle.book_progress.specs.ActorCounts.{count_after, count_of}
use Rattle.book_progress.specs.EndedLines.{event_ends}
use Rattle.book_progress.specs.PlayedPlans.{IsNextOf, driver}
use Rattle.book_progress.specs.ProgressKept.{most_entries}
use Rattle.session_shape.specs.SessionShape.{IsDriven, IsWellFormed, IsWork}
use Rattle.session_player.specs.LineProgress.{AreEndedTo, EndsLine, HaveLeft, IsAtLine, IsDriving, IsPlayable, driver_first, items_of, left_of}
use Rattle.session_player.proofs.BegunLemmas.{begun_more, begun_next}
use Rattle.session_player.proofs.EventLemmas.{AreEvents, few_events, line_ends, line_playable}
use Rattle.session_player.proofs.LeftLemmas.{next_left, next_of, one_left, same_left}
use Rattle.session_player.proofs.OpenLemmas.{EndsIts, IsGateOpen, ended_more, ended_next, open_at, open_more}
use Rattle.session_player.proofs.ShapeLemmas.{IsPlaced, drop_at, gate_at, line_at, number_at}

-- ---- counts

pub own_count : (actor line : ℕ) (what : What) (past : List Entry) → count_of actor (record { actor = actor; line = line; what = what } ∷ past) ≡ count_after what (count_of actor past)
own_count actor line what past = cond-true (actor == actor) _ _ (eq-eqb actor actor refl)

pub other_count : (actor line : ℕ) (what : What) (past : List Entry) (k : ℕ) → (actor == k) ≡ false → count_of k (record { actor = actor; line = line; what = what } ∷ past) ≡ count_of k past
other_count actor line what past k other = cond-false (actor == k) _ _ other

-- ---- a line of the driver begins

driven_work : (session : Session) (place : ℕ) (line : Line) (what : DriverLine) → IsPlaced session.boot session.callers place line → line.work ≡ work.Driver what → IsDriven session.boot what
driven_work session place line what placed is = subst (λ (w : Work). IsWork session.boot session.callers placed.past w) is placed.is.work_is

first_by : (streams : Streams) (line : Line) (rest : List Line) (what : DriverLine) (events : List DriverEvent) → line.work ≡ work.Driver what → work_events is_response streams line.work ≡ events
    → (k : ℕ) → left_of streams (line ∷ rest) k ≡ driver_first (items_of line events) (left_of (work_streams is_response streams line.work) rest) k
first_by streams line rest what events is made zero =
    list_more is_response streams line rest ∙ ap (λ (es : List DriverEvent). items_of line es ++ left_of (work_streams is_response streams line.work) rest 0) made
first_by streams line rest what events is made (suc k) =
    ap events_in (cond-false (is_of_caller (suc k) line.work) (line ∷ lines_by (suc k) rest) (lines_by (suc k) rest) (ap (is_of_caller (suc k)) is))

pub driving_begins : (session : Session) (place : ℕ) (line : Line) (what : DriverLine) (history : List Entry) → IsWellFormed session → slice_get session.lines place ≡ Some line → line.work ≡ work.Driver what
    → IsAtLine session place history → IsDriving session place history
driving_begins session place line what history formed get is at =
    let placed = line_at session.boot session.callers session.lines place line formed.lines get in
    let are : AreEvents (events_of is_response at.streams what) = line_ends at.streams what in
    let rest : List Line = drop (place + 1) session.lines in
    let here : drop place session.lines ≡ line ∷ rest = drop_at session.lines place line get in
    let made : work_events is_response at.streams line.work ≡ are.event ∷ are.later = ap (work_events is_response at.streams) is ∙ are.is in
    let few = few_events at.streams what in
    let many : length (events_of is_response at.streams what) ≡ length (are.event ∷ are.later) = ap length are.is in
    let sum : entries (line ∷ rest) ≡ entries_of line.work + entries rest = sum_by-cons (λ x. entries_of x.work) line rest in
    let own : entries_of line.work ≡ entries_of (work.Driver what) = ap entries_of is in
    let before : length history + (entries (line ∷ rest) + 1) ≤ most_entries = subst (λ (ls : List Line). length history + (entries ls + 1) ≤ most_entries) here at.few in
    record {
      line = line;
      line_is = get;
      event = are.event;
      later = are.later;
      ends = are.ends;
      playable = All-same (IsPlayable session.boot) (are.event ∷ are.later) (events_of is_response at.streams what) (sym are.is)
          (line_playable session.boot at.streams what (driven_work session place line what placed is));
      streams = work_streams is_response at.streams line.work;
      left = same_left (plan_of is_response session) (left_of at.streams (drop place session.lines))
          (driver_first (items_of line (are.event ∷ are.later)) (left_of (work_streams is_response at.streams line.work) rest)) history
          (λ k. ap (λ (ls : List Line). left_of at.streams ls k) here ∙ first_by at.streams line rest what (are.event ∷ are.later) is made k) at.left;
      ended = at.ended;
      opened = at.opened;
      begun = at.begun;
      few = omega (arith, before, sum, own, few, many);
    }

-- ---- its next event

abbrev item_at : (session : Session) (place : ℕ) (history : List Entry) → IsDriving session place history → Listed
item_at session place history d = plan_item (listed_for d.line d.event)

abbrev rest_at : (session : Session) (place : ℕ) (history : List Entry) → IsDriving session place history → List Listed
rest_at session place history d = items_of d.line d.later ++ left_of d.streams (drop (place + 1) session.lines) 0

-- the list of the driver goes on with it
pub driven_is_next : (session : Session) (place : ℕ) (history : List Entry) (list : List Listed) → (d : IsDriving session place history) → slice_get (plan_of is_response session) 0 ≡ Some list
    → slice_get list (count_of 0 history).ended ≡ Some (plan_item (listed_for d.line d.event))
driven_is_next session place history list d get =
    next_left list (count_of 0 history).ended (item_at session place history d) (rest_at session place history d) (d.left.each 0 list get)

driven_gate : (session : Session) (place : ℕ) (history : List Entry) → IsWellFormed session → (d : IsDriving session place history) → IsGateOpen d.line.gate history
driven_gate session place history formed d =
    let placed = line_at session.boot session.callers session.lines place d.line formed.lines d.line_is in
    open_at place d.line.number d.line.gate history (number_at session.boot session.callers place d.line placed) placed.is.gate_is d.ended

pub driven_next_of : (session : Session) (place : ℕ) (history : List Entry) → IsWellFormed session → (d : IsDriving session place history)
    → IsNextOf (plan_of is_response session) 0 (count_of 0 history) d.line.number (driver d.event) history
driven_next_of session place history formed d =
    next_of (plan_of is_response session) (driver_first (items_of d.line (d.event ∷ d.later)) (left_of d.streams (drop (place + 1) session.lines))) 0 (driver_plan is_response session.lines)
    (item_at session place history d) (rest_at session place history d) d.line.number (driver d.event) history d.left refl refl refl (refl, refl) (driven_gate session place history formed d).0

-- ---- after it

abbrev entry_for : (session : Session) (place : ℕ) (history : List Entry) → IsDriving session place history → DriverReply → Entry
entry_for session place history d reply = record { actor = 0; line = d.line.number; what = What.Driver d.event reply }

opened_after : (session : Session) (place : ℕ) (history : List Entry) (reply : DriverReply) → IsWellFormed session → (d : IsDriving session place history)
    → AreOpen session.lines (entry_for session place history d reply ∷ history)
opened_after session place history reply formed d =
    open_more session.lines (entry_for session place history d reply) history d.line.gate
    (gate_at session.boot session.callers session.lines place d.line formed.lines d.line_is) (driven_gate session place history formed d) d.opened

-- what is left after it
left_after : (session : Session) (place : ℕ) (history : List Entry) (reply : DriverReply) → (d : IsDriving session place history)
    → HaveLeft (plan_of is_response session) (driver_first (items_of d.line d.later) (left_of d.streams (drop (place + 1) session.lines))) (entry_for session place history d reply ∷ history)
left_after session place history reply d =
    one_left (plan_of is_response session) (driver_first (items_of d.line (d.event ∷ d.later)) (left_of d.streams (drop (place + 1) session.lines)))
    (driver_first (items_of d.line d.later) (left_of d.streams (drop (place + 1) session.lines))) 0 (item_at session place history d) history (entry_for session place history d reply ∷ history) d.left refl
    (λ k other. same_first k other) (own_count 0 d.line.number (What.Driver d.event reply) history) (other_count 0 d.line.number (What.Driver d.event reply) history)
  where
    same_first : (k : ℕ) → (0 == k) ≡ false → driver_first (items_of d.line (d.event ∷ d.later)) (left_of d.streams (drop (place + 1) session.lines)) k
        ≡ driver_first (items_of d.line d.later) (left_of d.streams (drop (place + 1) session.lines)) k
    same_first zero other = absurd (cc other)
    same_first (suc k) other = refl

ends_its : (event : DriverEvent) (reply : DriverReply) → event_ends event ≡ true → EndsIts (What.Driver event reply)
ends_its (DriverEvent.Opened a) reply ends = record { planned = refl; lawful = refl }
ends_its (DriverEvent.Response a payload) reply ends = absurd (cc ends)
ends_its (DriverEvent.Bytes a how) reply ends = record { planned = refl; lawful = refl }
ends_its (DriverEvent.Lost a) reply ends = record { planned = refl; lawful = refl }
ends_its (DriverEvent.Moment time) reply ends = record { planned = refl; lawful = refl }
ends_its (DriverEvent.Endpoint address state) reply ends = record { planned = refl; lawful = refl }
ends_its DriverEvent.Sweep reply ends = record { planned = refl; lawful = refl }

-- the last event of its line
pub driving_ends : (session : Session) (place : ℕ) (history : List Entry) (reply : DriverReply) → IsWellFormed session → (d : IsDriving session place history) → event_ends d.event ≡ true
    → IsAtLine session (place + 1) (entry_for session place history d reply ∷ history)
driving_ends session place history reply formed d ends = by_later d.later d.ends (left_after session place history reply d) d.few
  where
    by_later : (later : List DriverEvent) → EndsLine d.event later
        → HaveLeft (plan_of is_response session) (driver_first (items_of d.line later) (left_of d.streams (drop (place + 1) session.lines))) (entry_for session place history d reply ∷ history)
        → length history + (length (d.event ∷ later) + (entries (drop (place + 1) session.lines) + 1)) ≤ most_entries
        → IsAtLine session (place + 1) (entry_for session place history d reply ∷ history)
    by_later [] last left few = record {
      streams = d.streams;
      left = same_left (plan_of is_response session) (driver_first [] (left_of d.streams (drop (place + 1) session.lines))) (left_of d.streams (drop (place + 1) session.lines))
          (entry_for session place history d reply ∷ history) no_first left;
      ended = (let placed = line_at session.boot session.callers session.lines place d.line formed.lines d.line_is in
          ended_next place (entry_for session place history d reply) history d.ended (number_at session.boot session.callers place d.line placed) (ends_its d.event reply ends));
      opened = opened_after session place history reply formed d;
      begun = begun_next session place d.line (entry_for session place history d reply) history d.line_is (λ id new. refl) d.begun;
      few = omega (arith, few);
    }
      where
        no_first : (k : ℕ) → driver_first [] (left_of d.streams (drop (place + 1) session.lines)) k ≡ left_of d.streams (drop (place + 1) session.lines) k
        no_first zero = refl
        no_first (suc k) = refl
    by_later (next ∷ later) more left few = absurd (cc (ends, more.0))

-- a response, behind which there are others of its line
pub driving_goes_on : (session : Session) (place : ℕ) (history : List Entry) (reply : DriverReply) → IsWellFormed session → (d : IsDriving session place history) → event_ends d.event ≡ false
    → IsDriving session place (entry_for session place history d reply ∷ history)
driving_goes_on session place history reply formed d not_last = by_later d.later d.ends d.playable (left_after session place history reply d) d.few
  where
    by_later : (later : List DriverEvent) → EndsLine d.event later → All (IsPlayable session.boot) (d.event ∷ later)
        → HaveLeft (plan_of is_response session) (driver_first (items_of d.line later) (left_of d.streams (drop (place + 1) session.lines))) (entry_for session place history d reply ∷ history)
        → length history + (length (d.event ∷ later) + (entries (drop (place + 1) session.lines) + 1)) ≤ most_entries
        → IsDriving session place (entry_for session place history d reply ∷ history)
    by_later [] last playable left few = absurd (cc (not_last, last))
    by_later (next ∷ later) more playable left few = record {
      line = d.line;
      line_is = d.line_is;
      event = next;
      later = later;
      ends = more.1;
      playable = All-tail (IsPlayable session.boot) d.event (next ∷ later) playable;
      streams = d.streams;
      left = left;
      ended = ended_more (place + 5) (entry_for session place history d reply) history d.ended;
      opened = opened_after session place history reply formed d;
      begun = begun_more session place (entry_for session place history d reply) history (λ id. refl) d.begun;
      few = omega (arith, few);
    }
