-- What the lines before a line did (this project's own format).
use Rattle.std.specs.Prelude.{ℕ, ◌+◌, ◌/◌, List, [], ◌∷◌, length, Bool, true, false, not, ◌==◌, ◌&&◌, max, count_by, sum_by}
use Rattle.std.specs.List.{list_any}
use Rattle.session_lines.specs.declared.session.DriverLine.{DriverLine}
use Rattle.session_lines.specs.declared.session.DriverLine.TheVariants as driver
use Rattle.session_lines.specs.declared.session.Act.{Act}
use Rattle.session_lines.specs.declared.session.Act.TheVariants as act
use Rattle.session_lines.specs.declared.session.Work.{Work}
use Rattle.session_lines.specs.declared.session.Work.TheVariants as work
use Rattle.session_lines.specs.declared.session.Line.{Line}

abbrev pub is_driven : Work → Bool
is_driven (work.Driver what) = true
is_driven (work.Caller caller what) = false

-- ---- data

abbrev pub driver_bytes : DriverLine → ℕ
driver_bytes (driver.Opened authority) = 0
driver_bytes (driver.Bytes authority bytes) = length bytes
driver_bytes (driver.Lost authority) = 0
driver_bytes (driver.Moment time) = 0
driver_bytes (driver.Endpoint address state) = 0
driver_bytes driver.Sweep = 0

abbrev pub data_len : Work → ℕ
data_len (work.Driver what) = driver_bytes what
data_len (work.Caller caller what) = 0

-- ---- time

abbrev pub driver_time : DriverLine → ℕ
driver_time (driver.Opened authority) = 0
driver_time (driver.Bytes authority bytes) = 0
driver_time (driver.Lost authority) = 0
driver_time (driver.Moment time) = time.0
driver_time (driver.Endpoint address state) = 0
driver_time driver.Sweep = 0

abbrev pub time_in : Work → ℕ
time_in (work.Driver what) = driver_time what
time_in (work.Caller caller what) = 0

-- ---- calls

abbrev pub call_in : Act → ℕ
call_in (act.Start call) = call.id.0
call_in (act.Pick call word) = call.0
call_in (act.Commit call) = call.0

abbrev pub is_start : Act → Bool
is_start (act.Start call) = true
is_start (act.Pick call word) = false
is_start (act.Commit call) = false

-- a line of another caller that names the call
abbrev pub names_for_other : ℕ → ℕ → Work → Bool
names_for_other caller id (work.Driver what) = false
names_for_other caller id (work.Caller other what) = (call_in what == id) && not (other == caller)

abbrev pub starts : ℕ → Work → Bool
starts id (work.Driver what) = false
starts id (work.Caller caller what) = is_start what && (call_in what == id)

-- ---- entries: one for a line, one more for every five bytes of data that are begun, and one more for a start

abbrev pub driver_entries : DriverLine → ℕ
driver_entries what = 1 + (driver_bytes what + 4) / 5

abbrev pub act_entries : Act → ℕ
act_entries (act.Start call) = 2
act_entries (act.Pick call word) = 1
act_entries (act.Commit call) = 1

abbrev pub entries_of : Work → ℕ
entries_of (work.Driver what) = driver_entries what
entries_of (work.Caller caller what) = act_entries what

-- ---- over lines

abbrev pub driver_lines : List Line → ℕ
driver_lines lines = count_by (λ line. is_driven line.work) lines

abbrev pub data_lens : List Line → ℕ
data_lens lines = sum_by (λ line. data_len line.work) lines

-- the greatest time, or 0
unfoldable pub latest : List Line → ℕ
latest [] = 0
latest (line ∷ lines) = max (time_in line.work) (latest lines)

-- the call was named by another caller
abbrev pub is_of_other : ℕ → ℕ → List Line → Bool
is_of_other caller id lines = list_any (λ line. names_for_other caller id line.work) lines

abbrev pub is_started : ℕ → List Line → Bool
is_started id lines = list_any (λ line. starts id line.work) lines

abbrev pub entries : List Line → ℕ
entries lines = sum_by (λ line. entries_of line.work) lines
