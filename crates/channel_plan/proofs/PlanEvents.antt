-- A Book takes the events of the driver that the plan of a session lists.
use Rattle.std.proofs.Common.{◌≡◌, ℕ, suc, List, [], ◌∷◌, ◌++◌, length, map, All, Some}
use Rattle.std.specs.List.{slice_get}
use Rattle.std.proofs.lemmas.List.Elements.{All-append, All-cons, All-head, All-nil, All-same, All-tail}
use Rattle.call_journal.specs.declared.event.DriverEvent.{DriverEvent}
use Rattle.call_journal.specs.declared.event.DriverEvent.TheVariants as event
use Rattle.call_journal.specs.declared.plan.Listed.{Listed}
use Rattle.call_journal.specs.declared.plan.ListedEvent.{ListedEvent}
use Rattle.xds_bootstrap.specs.declared.bootstrap.Bootstrap.{Bootstrap}
use Rattle.session_lines.specs.declared.session.Act.{Act}
use Rattle.session_lines.specs.declared.session.Act.TheVariants as act
use Rattle.session_lines.specs.declared.session.Line.{Line}
use Rattle.session_lines.specs.declared.session.Session.{Session}
use Rattle.session_lines.specs.declared.session.Work.{Work}
use Rattle.session_lines.specs.declared.session.Work.TheVariants as work
use Rattle.session_script.specs.Plan.{Streams, driver_list, last_sweep, lines_by, listed_for, none_up, work_events, work_streams}
use Rattle.session_plan.specs.PlanOfSession.{act_event, events_in, events_on, plan_item, plan_of}
use Rattle.session_plan.specs.ReadablePayloads.{is_response}
use Rattle.session_plan.proofs.DriverLemmas.{list_end, list_more}
use Rattle.channel_calls.specs.ChannelPlans.{IsDrivable}
use Rattle.session_shape.specs.SessionShape.{AreLines, IsWellFormed, IsWork}
use Rattle.session_player.specs.LineProgress.{IsPlayable}
use Rattle.session_player.proofs.EventLemmas.{line_playable}
use Rattle.channel_plan.proofs.LineGates.{IsListFor, all_get, list_for}
use Rattle.channel_plan.proofs.LineGates as list

drivable : (boot : Bootstrap) (e : DriverEvent) → IsPlayable boot e → IsDrivable (length boot.authorities) (ListedEvent.Driver e)
drivable boot (event.Opened authority) is = (is, tt)
drivable boot (event.Response authority payload) is = is
drivable boot (event.Bytes authority how) is = (is, tt)
drivable boot (event.Lost authority) is = (is, tt)
drivable boot (event.Moment time) is = (tt, tt)
drivable boot (event.Endpoint address state) is = (tt, tt)
drivable boot event.Sweep is = (tt, tt)

abbrev IsTaken : Bootstrap → Listed → Type 0
IsTaken boot item = IsDrivable (length boot.authorities) item.event

-- ---- the driver

items_taken : (boot : Bootstrap) (line : Line) (events : List DriverEvent) → All (IsPlayable boot) events → All (IsTaken boot) (map plan_item (map (listed_for line) events))
items_taken boot line [] all = All-nil (IsTaken boot)
items_taken boot line (e ∷ events) all =
    All-cons (IsTaken boot) (plan_item (listed_for line e)) (map plan_item (map (listed_for line) events)) (drivable boot e (All-head (IsPlayable boot) e events all))
    (items_taken boot line events (All-tail (IsPlayable boot) e events all))

work_playable : (boot : Bootstrap) (callers : ℕ) (before : List Line) (streams : Streams) (w : Work) → IsWork boot callers before w → All (IsPlayable boot) (work_events is_response streams w)
work_playable boot callers before streams (work.Driver what) is = line_playable boot streams what is
work_playable boot callers before streams (work.Caller caller what) is = All-nil (IsPlayable boot)

driver_taken : (boot : Bootstrap) (callers : ℕ) (before lines : List Line) (streams : Streams) → AreLines boot callers before lines → All (IsTaken boot) (map plan_item (driver_list is_response streams lines))
driver_taken boot callers before [] streams are =
    All-same (IsTaken boot) (map plan_item (driver_list is_response streams [])) (plan_item last_sweep ∷ []) (list_end is_response streams)
    (All-cons (IsTaken boot) (plan_item last_sweep) [] (tt, tt) (All-nil (IsTaken boot)))
driver_taken boot callers before (line ∷ lines) streams are =
    let items : List Listed = map plan_item (map (listed_for line) (work_events is_response streams line.work)) in
    let rest : List Listed = map plan_item (driver_list is_response (work_streams is_response streams line.work) lines) in
    All-same (IsTaken boot) (map plan_item (driver_list is_response streams (line ∷ lines))) (items ++ rest) (list_more is_response streams line lines)
    (All-append (IsTaken boot) items rest
    (items_taken boot line (work_events is_response streams line.work) (work_playable boot callers before streams line.work are.0.work_is))
    (driver_taken boot callers (line ∷ before) lines (work_streams is_response streams line.work) are.1))

-- ---- callers

act_taken : (n : ℕ) (what : Act) → IsDrivable n (act_event what)
act_taken n (act.Start call) = tt
act_taken n (act.Pick id word) = tt
act_taken n (act.Commit id) = tt

events_taken_by : (boot : Bootstrap) (line : Line) (w : Work) (rest : List Listed) → All (IsTaken boot) rest → All (IsTaken boot) (events_on line w ++ rest)
events_taken_by boot line (work.Driver what) rest all = all
events_taken_by boot line (work.Caller caller what) rest all = All-cons (IsTaken boot) _ rest (act_taken (length boot.authorities) what) all

events_taken : (boot : Bootstrap) (lines : List Line) → All (IsTaken boot) (events_in lines)
events_taken boot [] = All-nil (IsTaken boot)
events_taken boot (line ∷ lines) = events_taken_by boot line line.work (events_in lines) (events_taken boot lines)

-- ---- the plan

list_taken : (session : Session) (actor : ℕ) (own : List Listed) → IsWellFormed session → IsListFor session actor own → All (IsTaken session.boot) own
list_taken session _ _ formed list.driver = driver_taken session.boot session.callers [] session.lines none_up formed.lines
list_taken session _ _ formed (list.caller k less) = events_taken session.boot (lines_by (suc k) session.lines)

pub plan_drivable : (session : Session) → IsWellFormed session → (actor : ℕ) (own : List Listed) → slice_get (plan_of is_response session) actor ≡ Some own
    → (i : ℕ) (item : Listed) → slice_get own i ≡ Some item → IsDrivable (length session.boot.authorities) item.event
plan_drivable session formed actor own get i item at = all_get (IsTaken session.boot) own i item (list_taken session actor own formed (list_for session actor own get)) at
