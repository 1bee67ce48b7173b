-- How far a session has been played, line by line in the order of the file (this project's own). Histories have the newest
-- entry first.
use Rattle.std.specs.Prelude.{◌≡◌, ℕ, zero, suc, ◌+◌, ◌<◌, ◌≤◌, ◌^◌, List, [], ◌∷◌, ◌++◌, length, take, drop, map, reverse, ◌==◌, Bool, true, false, Some, All, IsTrue, slice_get}
use Rattle.std.specs.List.{list_any}
use Rattle.call_journal.specs.declared.entry.Entry.{Entry}
use Rattle.call_journal.specs.declared.entry.What.{What}
use Rattle.call_journal.specs.declared.event.CallerEvent.{CallerEvent}
use Rattle.call_journal.specs.declared.event.DriverEvent.{DriverEvent}
use Rattle.call_journal.specs.declared.event.DriverEvent.TheVariants as event
use Rattle.call_journal.specs.declared.plan.Listed.{Listed}
use Rattle.xds_bootstrap.specs.declared.bootstrap.Bootstrap.{Bootstrap}
use Rattle.session_lines.specs.Before.{entries, is_started}
use Rattle.session_lines.specs.declared.session.Act.{Act}
use Rattle.session_lines.specs.declared.session.Line.{Line}
use Rattle.session_lines.specs.declared.session.Work.TheVariants as work
use Rattle.session_lines.specs.declared.session.Session.{Session}
use Rattle.session_script.specs.Plan.{Streams, driver_list, lines_by, listed_for}
use Rattle.session_plan.specs.PlanOfSession.{events_in, plan_item, plan_of}
use Rattle.session_plan.specs.ReadablePayloads.{IsShort, is_response}
use Rattle.legal_plan.specs.legal_history.Legal as legal
use Rattle.legal_plan.specs.legal_history.Legal.{AreOpen}
use Rattle.book_progress.specs.ActorCounts.{count_of}
use Rattle.book_progress.specs.EndedLines.{event_ends, has_ended}
use Rattle.book_progress.specs.ProgressKept.{most_entries}
use Rattle.session_shape.specs.SessionShape.{IsAuthorityOf}

-- ---- what the plan has left

-- of a list so many events have ended, and these are left
pub record IsLeft (list : List Listed) (ended : ℕ) (left : List Listed) : Type 0 where
  pub front : List Listed
  pub whole : list ≡ front ++ left
  pub many : length front ≡ ended

-- what the driver and each caller have left where these lines are left
abbrev pub left_of : Streams → List Line → ℕ → List Listed
left_of streams lines zero = map plan_item (driver_list is_response streams lines)
left_of streams lines (suc caller) = events_in (lines_by (suc caller) lines)

-- each actor has ended all events but those that are left to it, and no pin is up
pub record HaveLeft (plan : List (List Listed)) (left : ℕ → List Listed) (history : List Entry) : Type 0 where
  pub each : (actor : ℕ) (list : List Listed) → slice_get plan actor ≡ Some list → IsLeft list (count_of actor history).ended (left actor)
  pub pins : (actor : ℕ) → (count_of actor history).pins ≡ 0

-- a line has ended, as gates of a plan and gates of lines ask for it
pub record IsEnded (line : ℕ) (history : List Entry) : Type 0 where
  pub planned : IsTrue (has_ended line history)
  pub lawful : IsTrue (legal.has_ended line history)

-- each line below this number, from line 5 on, has ended
abbrev pub AreEndedTo : ℕ → List Entry → Type 0
AreEndedTo number history = (line : ℕ) → 5 ≤ line → line < number → IsEnded line history

-- a call has begun: an entry pins or holds for it
abbrev pub is_begun : ℕ → What → Bool
is_begun id (What.Caller (CallerEvent.Pin call) reply) = call.id.0 == id
is_begun id (What.Caller (CallerEvent.Hold call) reply) = call.id.0 == id
is_begun id what = false

abbrev pub has_begun : ℕ → List Entry → Bool
has_begun id history = list_any (λ e. is_begun id e.what) history

-- no call has begun that isn't started by a line before the one at this place
abbrev pub AreBegunBy : Session → ℕ → List Entry → Type 0
AreBegunBy session place history = (id : ℕ) → is_started id (reverse (take place session.lines)) ≡ false → has_begun id history ≡ false

-- ---- between two lines

-- the lines before the one at this place have been played, and nothing of it or of those behind it
pub record IsAtLine (session : Session) (place : ℕ) (history : List Entry) : Type 0 where
  pub streams : Streams
  pub left : HaveLeft (plan_of is_response session) (left_of streams (drop place session.lines)) history
  pub ended : AreEndedTo (place + 5) history
  pub opened : AreOpen session.lines history
  pub begun : AreBegunBy session place history
  pub few : length history + (entries (drop place session.lines) + 1) ≤ most_entries

-- ---- at a line of a caller

-- the line at this place is one of this caller, and has it do this
pub record IsCalling (session : Session) (place : ℕ) (line : Line) (caller : ℕ) (what : Act) : Type 0 where
  pub line_is : slice_get session.lines place ≡ Some line
  pub work_is : line.work ≡ work.Caller caller what

-- ---- in a line of the driver

-- an event that a Book of this bootstrap takes
abbrev pub IsPlayable : Bootstrap → DriverEvent → Type 0
IsPlayable boot (event.Opened authority) = IsAuthorityOf boot authority
IsPlayable boot (event.Response authority payload) = IsAuthorityOf boot authority × IsShort payload
IsPlayable boot (event.Bytes authority how) = IsAuthorityOf boot authority
IsPlayable boot (event.Lost authority) = IsAuthorityOf boot authority
IsPlayable boot (event.Moment time) = Unit {0}
IsPlayable boot (event.Endpoint address state) = Unit {0}
IsPlayable boot event.Sweep = Unit {0}

-- of an event and those behind it the last one ends the line, and no other does
abbrev pub EndsLine : DriverEvent → List DriverEvent → Type 0
EndsLine event [] = event_ends event ≡ true
EndsLine event (next ∷ later) = (event_ends event ≡ false) × EndsLine next later

-- the listed events of a line
abbrev pub items_of : Line → List DriverEvent → List Listed
items_of line events = map plan_item (map (listed_for line) events)

-- the driver has these left before what is left to it else
abbrev pub driver_first : List Listed → (ℕ → List Listed) → ℕ → List Listed
driver_first items left zero = items ++ left zero
driver_first items left (suc caller) = left (suc caller)

-- the line at this place is one of the driver, and of its events one and those behind it are left
pub record IsDriving (session : Session) (place : ℕ) (history : List Entry) : Type 0 where
  pub line : Line
  pub line_is : slice_get session.lines place ≡ Some line
  pub event : DriverEvent
  pub later : List DriverEvent
  pub ends : EndsLine event later
  pub playable : All (IsPlayable session.boot) (event ∷ later)
  pub streams : Streams
  pub left : HaveLeft (plan_of is_response session) (driver_first (items_of line (event ∷ later)) (left_of streams (drop (place + 1) session.lines))) history
  pub ended : AreEndedTo (place + 5) history
  pub opened : AreOpen session.lines history
  pub begun : AreBegunBy session place history
  pub few : length history + (length (event ∷ later) + (entries (drop (place + 1) session.lines) + 1)) ≤ most_entries

-- ---- at the end

-- all lines have been played, and the last sweep
pub record IsAtEnd (session : Session) (history : List Entry) : Type 0 where
  pub left : HaveLeft (plan_of is_response session) (λ actor. []) history
  pub opened : AreOpen session.lines history
