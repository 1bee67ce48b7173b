-- What the reader keeps of the lines that it has read.
use Rattle.std.specs.Prelude.{◌≡◌, ℕ, ◌+◌, ◌*◌, ◌≤◌, List, length, false, not, ◌==◌, get_or, if◌then◌else◌, Option, Some, None}
use Rattle.std.specs.Option.{option_map_or}
use Rattle.session_lines.specs.Before.{call_in, driver_lines, data_lens, latest, is_of_other, is_started, entries}
use Rattle.session_lines.specs.declared.call_uses.CallUse.{CallUse}
use Rattle.session_lines.specs.declared.session.DriverLine.{DriverLine}
use Rattle.session_lines.specs.declared.session.DriverLine.TheVariants as driver
use Rattle.session_lines.specs.declared.session.Line.{Line}
use Rattle.session_lines.specs.declared.session.Work.{Work}
use Rattle.session_lines.specs.declared.session.Work.TheVariants as work

-- the use of a call that no line names
abbrev pub unused : CallUse
unused = record {
  caller = None;
  started = false;
}

-- how lines use the call of a number, where the uses stand by the numbers of their calls
abbrev pub use_of : List CallUse → ℕ → CallUse
use_of uses id = get_or uses id unused

-- the caller of a call, after one more line
abbrev pub caller_with : Work → ℕ → Option ℕ → Option ℕ
caller_with (work.Driver what) id before = before
caller_with (work.Caller caller what) id before = if call_in what == id then Some caller else before

-- no other caller has named the call of the line
abbrev pub IsOfNoOther : Work → List Line → Type 0
IsOfNoOther (work.Driver what) lines = Unit {0}
IsOfNoOther (work.Caller caller what) lines = is_of_other caller (call_in what) lines ≡ false

abbrev pub FitsDriver : DriverLine → List Line → Type 0
FitsDriver (driver.Opened authority) lines = Unit {0}
FitsDriver (driver.Bytes authority bytes) lines = data_lens lines + length bytes ≤ 8388608
FitsDriver (driver.Lost authority) lines = Unit {0}
FitsDriver (driver.Moment time) lines = Unit {0}
FitsDriver (driver.Endpoint address state) lines = Unit {0}
FitsDriver driver.Sweep lines = Unit {0}

-- all data isn't too much with that of the line, and no other caller has named the call of the line
abbrev pub Fits : Work → List Line → Type 0
Fits (work.Driver what) lines = FitsDriver what lines
Fits (work.Caller caller what) lines = is_of_other caller (call_in what) lines ≡ false

-- the counts are those of the lines; each call has the caller that named it, and whether it was started
pub record IsKept (lines : List Line) (driven bytes made time : ℕ) (uses : List CallUse) : Type 0 where
  pub driven_is : driven ≡ driver_lines lines
  pub bytes_is : bytes ≡ data_lens lines
  pub made_is : made ≡ entries lines
  pub time_is : time ≡ latest lines
  pub callers_is : (caller id : ℕ) → is_of_other caller id lines ≡ option_map_or (λ other. not (other == caller)) (use_of uses id).caller false
  pub started_is : (id : ℕ) → (use_of uses id).started ≡ is_started id lines
  pub few_lines : length lines ≤ 199996
  pub few_driven : driven ≤ length lines
  pub few_bytes : bytes ≤ 8388608
  pub few_made : made ≤ 2 * length lines + bytes
