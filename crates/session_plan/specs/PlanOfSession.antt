-- The plan of a session (this project's own): the listed events of each actor.
use Rattle.std.specs.Prelude.{ℕ, ◌==◌, if◌then◌else◌, List, [], ◌∷◌, ◌++◌, map, Bool}
use Rattle.std.specs.List.{range_with_len}
use Rattle.call_journal.specs.declared.plan.Listed.{Listed}
use Rattle.call_journal.specs.declared.plan.ListedEvent.{ListedEvent}
use Rattle.call_journal.specs.declared.plan.ListedEvent.TheVariants as listed
use Rattle.session_lines.specs.declared.session.Act.{Act}
use Rattle.session_lines.specs.declared.session.Act.TheVariants as act
use Rattle.session_lines.specs.declared.session.Work.{Work}
use Rattle.session_lines.specs.declared.session.Work.TheVariants as work
use Rattle.session_lines.specs.declared.session.Line.{Line}
use Rattle.session_lines.specs.declared.session.Session.{Session}
use Rattle.session_script.specs.Plan as plan
use Rattle.session_script.specs.Plan.{driver_list, lines_by, none_up}

-- ---- the driver: what its lines make where this tells which payloads are read as responses, and the last sweep

abbrev pub plan_item : plan.Listed → Listed
plan_item made = record { line = made.line; after = made.gate; event = listed.Driver made.event }

abbrev pub driver_plan : (List ℕ → Bool) → List Line → List Listed
driver_plan readable lines = map plan_item (driver_list readable none_up lines)

-- ---- the callers: a pick and a commit are one event, and a start is a pin and a hold

abbrev pub act_event : Act → ListedEvent
act_event (act.Start started) = listed.Start started
act_event (act.Pick id word) = listed.Pick id word
act_event (act.Commit id) = listed.Commit id

abbrev pub events_on : Line → Work → List Listed
events_on line (work.Driver what) = []
events_on line (work.Caller caller what) = record { line = line.number; after = line.gate; event = act_event what } ∷ []

-- the events of these lines of callers
abbrev pub events_in : List Line → List Listed
events_in [] = []
events_in (line ∷ lines) = events_on line line.work ++ events_in lines

abbrev pub caller_plan : List Line → ℕ → List Listed
caller_plan lines caller = events_in (lines_by caller lines)

-- what a line lists for a caller
abbrev pub events_by : ℕ → Line → Work → List Listed
events_by caller line (work.Driver what) = []
events_by caller line (work.Caller other what) = if other == caller then record { line = line.number; after = line.gate; event = act_event what } ∷ [] else []

abbrev pub events_for : ℕ → Line → List Listed
events_for caller line = events_by caller line line.work

-- ---- all actors: the driver's list first, then that of each caller
abbrev pub plan_of : (List ℕ → Bool) → Session → List (List Listed)
plan_of readable session = driver_plan readable session.lines ∷ map (caller_plan session.lines) (range_with_len 1 session.callers)
