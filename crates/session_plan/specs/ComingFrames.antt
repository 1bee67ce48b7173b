-- What waits on the streams of authorities while frames come, and the events on one stream (gRPC over HTTP/2,
-- "Length-Prefixed-Message").
use Rattle.std.specs.Prelude.{◌≡◌, ℕ, ◌==◌, if◌then◌else◌, List, [], ◌∷◌, ◌++◌, map, filter, Bool, true, false, Option, Some, None, Result, Ok, Err}
use Rattle.std.specs.BTreeMap.{BTreeMap, get}
use Rattle.std.specs.Ordering.{nat_cmp}
use Rattle.grpc_framing.specs.Cut.{cut}
use Rattle.grpc_framing.specs.Framing.{fault_at}
use Rattle.grpc_framing.specs.declared.frame_fault.FrameFault.{FrameFault}
use Rattle.grpc_framing.specs.declared.frame_fault.FrameFault.TheVariants as frame
use Rattle.call_journal.specs.declared.event.BytesHow.{BytesHow}
use Rattle.call_journal.specs.declared.event.BytesHow.TheVariants as how
use Rattle.call_journal.specs.declared.event.DriverEvent.{DriverEvent}
use Rattle.call_journal.specs.declared.event.DriverEvent.TheVariants as event
use Rattle.xc_base.specs.declared.names.Authority.{Authority}
use Rattle.session_lines.specs.declared.session.DriverLine.{DriverLine}
use Rattle.session_lines.specs.declared.session.DriverLine.TheVariants as driver
use Rattle.session_lines.specs.declared.session.Work.{Work}
use Rattle.session_lines.specs.declared.session.Work.TheVariants as work
use Rattle.session_lines.specs.declared.session.Line.{Line}
use Rattle.session_script.specs.Plan.{Streams, came_after, data_events, driver_list}

-- of what came on a stream that is up the rest waits, which has no fault; nothing waits on one that is down
abbrev pub IsWaiting : Option (List ℕ) → Option (List ℕ) → Type 0
IsWaiting None None = Unit {0}
IsWaiting None (Some waiting) = ⊥
IsWaiting (Some came) None = ⊥
IsWaiting (Some came) (Some waiting) = (waiting ≡ (cut came).rest) × (fault_at waiting ≡ None)

-- what became of bytes, by the framing's answer
abbrev pub answer_how : Result Unit FrameFault → BytesHow
answer_how (Ok done) = how.Whole
answer_how (Err frame.Compressed) = how.Compressed
answer_how (Err (frame.TooLong size)) = how.TooLong size
answer_how (Err frame.Ended) = how.Ended
answer_how (Err frame.Memory) = how.Ended

-- and by whether each response in them can be read
abbrev pub bytes_how : Bool → Result Unit FrameFault → BytesHow
bytes_how true answer = answer_how answer
bytes_how false answer = how.Ended

-- what waits on the streams, by the places of their authorities
abbrev pub Waiting : Type 0
Waiting = BTreeMap ℕ (List ℕ)

abbrev pub AreWaiting : Streams → Waiting → Type 0
AreWaiting streams waiting = (place : ℕ) → IsWaiting (streams place) (get nat_cmp waiting place)

-- a map has this at a place, and at each other what it had
abbrev pub Sets : Waiting → Waiting → ℕ → Option (List ℕ) → Type 0
Sets old new place frames = (other : ℕ) → get nat_cmp new other ≡ (if place == other then frames else get nat_cmp old other)

-- ---- the events on the stream of one authority, of which this came on it

abbrev pub what_events : (List ℕ → Bool) → Authority → Option (List ℕ) → DriverLine → List DriverEvent
what_events readable a came (driver.Opened other) = if other.0 == a.0 then event.Opened other ∷ [] else []
what_events readable a came (driver.Bytes other bytes) = if other.0 == a.0 then data_events readable other came bytes else []
what_events readable a came (driver.Lost other) = if other.0 == a.0 then event.Lost other ∷ [] else []
what_events readable a came (driver.Moment time) = []
what_events readable a came (driver.Endpoint address state) = []
what_events readable a came driver.Sweep = []

-- what came on the stream after a line
abbrev pub what_came : (List ℕ → Bool) → Authority → Option (List ℕ) → DriverLine → Option (List ℕ)
what_came readable a came (driver.Opened other) = if other.0 == a.0 then Some [] else came
what_came readable a came (driver.Bytes other bytes) = if other.0 == a.0 then came_after readable came bytes else came
what_came readable a came (driver.Lost other) = if other.0 == a.0 then None else came
what_came readable a came (driver.Moment time) = came
what_came readable a came (driver.Endpoint address state) = came
what_came readable a came driver.Sweep = came

abbrev pub line_events : (List ℕ → Bool) → Authority → Option (List ℕ) → Work → List DriverEvent
line_events readable a came (work.Driver what) = what_events readable a came what
line_events readable a came (work.Caller caller what) = []

abbrev pub line_came : (List ℕ → Bool) → Authority → Option (List ℕ) → Work → Option (List ℕ)
line_came readable a came (work.Driver what) = what_came readable a came what
line_came readable a came (work.Caller caller what) = came

abbrev pub stream_events : (List ℕ → Bool) → Authority → Option (List ℕ) → List Line → List DriverEvent
stream_events readable a came [] = []
stream_events readable a came (line ∷ lines) = line_events readable a came line.work ++ stream_events readable a (line_came readable a came line.work) lines

-- whether an event is one on the stream of an authority
abbrev pub is_on : Authority → DriverEvent → Bool
is_on a (event.Opened other) = other.0 == a.0
is_on a (event.Response other payload) = other.0 == a.0
is_on a (event.Bytes other how) = other.0 == a.0
is_on a (event.Lost other) = other.0 == a.0
is_on a (event.Moment time) = false
is_on a (event.Endpoint address state) = false
is_on a event.Sweep = false

-- the listed events on a stream follow from the lines that speak of it alone
abbrev pub StreamIsListed : Type 0
StreamIsListed = (readable : List ℕ → Bool) (a : Authority) (streams : Streams) (lines : List Line)
    → filter (is_on a) (map (λ listed. listed.event) (driver_list readable streams lines)) ≡ stream_events readable a (streams a.0) lines
