-- The events that a session lists (this project's own): for the driver and for each caller, in the order of the file.
use Rattle.std.specs.Prelude.{◌≡◌, ℕ, ◌≤◌, ◌⊎◌, List, [], ◌∷◌, ◌++◌, length, drop, map, filter, Bool, false, ◌==◌, if◌then◌else◌, Option, Some, None, All}
use Rattle.std.specs.List.{list_all}
use Rattle.grpc_framing.specs.Cut.{cut}
use Rattle.grpc_framing.specs.Framing.{fault_at}
use Rattle.grpc_framing.specs.declared.frame_fault.FrameFault.{FrameFault}
use Rattle.grpc_framing.specs.declared.frame_fault.FrameFault.TheVariants as frame
use Rattle.call_journal.specs.declared.event.BytesHow.{BytesHow}
use Rattle.call_journal.specs.declared.event.BytesHow.TheVariants as how
use Rattle.call_journal.specs.declared.event.DriverEvent.{DriverEvent}
use Rattle.call_journal.specs.declared.event.DriverEvent.TheVariants as event
use Rattle.call_journal.specs.declared.event.CallerEvent.{CallerEvent}
use Rattle.call_journal.specs.declared.event.CallerEvent.TheVariants as call
use Rattle.call_journal.specs.declared.entry.Entry.{Entry}
use Rattle.call_journal.specs.declared.entry.What.{What}
use Rattle.call_journal.specs.declared.entry.What.TheVariants as what
use Rattle.xc_base.specs.declared.names.Authority.{Authority}
use Rattle.session_lines.specs.declared.session.DriverLine.{DriverLine}
use Rattle.session_lines.specs.declared.session.DriverLine.TheVariants as driver
use Rattle.session_lines.specs.declared.session.Act.{Act}
use Rattle.session_lines.specs.declared.session.Act.TheVariants as act
use Rattle.session_lines.specs.declared.session.Work.{Work}
use Rattle.session_lines.specs.declared.session.Work.TheVariants as work
use Rattle.session_lines.specs.declared.session.Line.{Line}

-- ---- what the driver's lines make

-- what came on the stream of each authority since it was opened, where it is up
abbrev pub Streams : Type 0
Streams = ℕ → Option (List ℕ)

abbrev pub none_up : Streams
none_up authority = None

abbrev pub with_stream : Authority → Option (List ℕ) → Streams → Streams
with_stream authority came streams other = if other == authority.0 then came else streams other

-- the payloads of the frames that end in these bytes, after the bytes that came before
abbrev pub ended_in : List ℕ → List ℕ → List (List ℕ)
ended_in before bytes = drop (length (cut before).payloads) (cut (before ++ bytes)).payloads

-- the responses up to the first that can't be read, which is the last of them
abbrev pub played_of : (List ℕ → Bool) → List (List ℕ) → List (List ℕ)
played_of readable [] = []
played_of readable (payload ∷ payloads) = if readable payload then payload ∷ played_of readable payloads else payload ∷ []

abbrev pub how_at : Option FrameFault → BytesHow
how_at None = how.Whole
how_at (Some frame.Compressed) = how.Compressed
how_at (Some (frame.TooLong size)) = how.TooLong size
how_at (Some frame.Ended) = how.Ended
how_at (Some frame.Memory) = how.Ended

-- what became of the bytes
abbrev pub how_of : (List ℕ → Bool) → List ℕ → List ℕ → BytesHow
how_of readable before bytes =
    if list_all readable (ended_in before bytes) then how_at (fault_at (cut (before ++ bytes)).rest) else how.Ended

-- a stream whose bytes didn't come whole is down
abbrev pub up_after : BytesHow → List ℕ → Option (List ℕ)
up_after how.Whole came = Some came
up_after how.Closed came = None
up_after how.Compressed came = None
up_after (how.TooLong size) came = None
up_after how.Ended came = None

abbrev pub came_after : (List ℕ → Bool) → Option (List ℕ) → List ℕ → Option (List ℕ)
came_after readable None bytes = None
came_after readable (Some before) bytes = up_after (how_of readable before bytes) (before ++ bytes)

-- the streams after a line
abbrev pub streams_after : (List ℕ → Bool) → Streams → DriverLine → Streams
streams_after readable streams (driver.Opened authority) = with_stream authority (Some []) streams
streams_after readable streams (driver.Bytes authority bytes) = with_stream authority (came_after readable (streams authority.0) bytes) streams
streams_after readable streams (driver.Lost authority) = with_stream authority None streams
streams_after readable streams (driver.Moment time) = streams
streams_after readable streams (driver.Endpoint address state) = streams
streams_after readable streams driver.Sweep = streams

-- of a data line the responses whose frames end in it, and then the bytes
abbrev pub data_events : (List ℕ → Bool) → Authority → Option (List ℕ) → List ℕ → List DriverEvent
data_events readable authority None bytes = event.Bytes authority how.Closed ∷ []
data_events readable authority (Some before) bytes =
    map (event.Response authority) (played_of readable (ended_in before bytes)) ++ event.Bytes authority (how_of readable before bytes) ∷ []

abbrev pub events_of : (List ℕ → Bool) → Streams → DriverLine → List DriverEvent
events_of readable streams (driver.Opened authority) = event.Opened authority ∷ []
events_of readable streams (driver.Bytes authority bytes) = data_events readable authority (streams authority.0) bytes
events_of readable streams (driver.Lost authority) = event.Lost authority ∷ []
events_of readable streams (driver.Moment time) = event.Moment time ∷ []
events_of readable streams (driver.Endpoint address state) = event.Endpoint address state ∷ []
events_of readable streams driver.Sweep = event.Sweep ∷ []

-- an event of the driver with its line and the gate of the line
pub record Listed : Type 0 where
  pub line : ℕ
  pub gate : Option ℕ
  pub event : DriverEvent

abbrev pub listed_for : Line → DriverEvent → Listed
listed_for line event = record { line = line.number; gate = line.gate; event = event }

-- the last sweep, with line 0
abbrev pub last_sweep : Listed
last_sweep = record { line = 0; gate = None; event = event.Sweep }

abbrev pub work_events : (List ℕ → Bool) → Streams → Work → List DriverEvent
work_events readable streams (work.Driver what) = events_of readable streams what
work_events readable streams (work.Caller caller what) = []

abbrev pub work_streams : (List ℕ → Bool) → Streams → Work → Streams
work_streams readable streams (work.Driver what) = streams_after readable streams what
work_streams readable streams (work.Caller caller what) = streams

-- the driver's events, of its lines and of the last sweep, where this tells which payloads are read as responses
unfoldable pub driver_list : (List ℕ → Bool) → Streams → List Line → List Listed
driver_list readable streams [] = last_sweep ∷ []
driver_list readable streams (line ∷ lines) =
    map (listed_for line) (work_events readable streams line.work) ++ driver_list readable (work_streams readable streams line.work) lines

-- ---- the entries of a history of the session

abbrev pub driver_event : What → Option DriverEvent
driver_event (what.Driver event reply) = Some event
driver_event (what.Caller event reply) = None

abbrev pub caller_event : What → Option CallerEvent
caller_event (what.Driver event reply) = None
caller_event (what.Caller event reply) = Some event

-- the entries of an actor, in their order
abbrev pub entries_by : ℕ → List Entry → List Entry
entries_by actor entries = filter (λ entry. entry.actor == actor) entries

-- the lines of a caller, in their order
abbrev pub is_of_caller : ℕ → Work → Bool
is_of_caller caller (work.Driver what) = false
is_of_caller caller (work.Caller other what) = other == caller

abbrev pub lines_by : ℕ → List Line → List Line
lines_by caller lines = filter (λ line. is_of_caller caller line.work) lines

-- events of a caller's line: a pin, and a hold of the same call where there was a snapshot; or the one event
abbrev pub ActEvents : Act → List (Option CallerEvent) → Type 0
ActEvents (act.Start started) events = (events ≡ Some (call.Pin started) ∷ []) ⊎ (events ≡ Some (call.Pin started) ∷ Some (call.Hold started) ∷ [])
ActEvents (act.Pick id word) events = events ≡ Some (call.Pick id word) ∷ []
ActEvents (act.Commit id) events = events ≡ Some (call.Commit id) ∷ []

abbrev pub WorkEvents : Work → List (Option CallerEvent) → Type 0
WorkEvents (work.Driver what) events = ⊥
WorkEvents (work.Caller caller what) events = ActEvents what events

-- the entries of a caller's lines, line by line
pub data ArePlayed : List Line → List Entry → Type 0 where
  all : ArePlayed [] []
  next : (line : Line) → (lines : List Line) → (now later : List Entry) → All (λ entry. entry.line ≡ line.number) now
      → WorkEvents line.work (map (λ entry. caller_event entry.what) now) → ArePlayed lines later → ArePlayed (line ∷ lines) (now ++ later)

-- an entry of the driver and a listed event, as a line and an event
abbrev pub entry_event : Entry → ℕ × Option DriverEvent
entry_event entry = (entry.line, driver_event entry.what)

abbrev pub listed_event : Listed → ℕ × Option DriverEvent
listed_event listed = (listed.line, Some listed.event)

-- the entries are those of the listed events, each actor's in their order: the driver is actor 0, and there are so many callers
pub record AreListed (readable : List ℕ → Bool) (callers : ℕ) (lines : List Line) (entries : List Entry) : Type 0 where
  pub driver : map entry_event (entries_by 0 entries) ≡ map listed_event (driver_list readable none_up lines)
  pub each_caller : (caller : ℕ) → 1 ≤ caller → caller ≤ callers → ArePlayed (lines_by caller lines) (entries_by caller entries)
  pub actors : All (λ entry. entry.actor ≤ callers) entries
