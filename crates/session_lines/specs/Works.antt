-- What a line from line 5 on says, or why it is refused: the checks of its form in their order (this project's own format).
use Rattle.std.specs.Prelude.{◌≡◌, ℕ, ◌+◌, ◌-◌, List, length, Bool, not, ◌&&◌, ◌||◌, nat_lt, nat_le, if◌then◌else◌, Option, Some, None, Result, Ok, Err}
use Rattle.std.specs.Option.{ok_or}
use Rattle.std.specs.Str.{is_utf8}
use Rattle.xc_base.specs.Addresses.{address_in}
use Rattle.xds_bootstrap.specs.declared.bootstrap.Bootstrap.{Bootstrap}
use Rattle.session_lines.specs.Lines.{words_of, is_driver_line}
use Rattle.session_lines.specs.Forms.{Form, form_of, gate_in}
use Rattle.session_lines.specs.Forms as form
use Rattle.session_lines.specs.Before.{driver_lines, data_lens, latest, is_of_other, is_started}
use Rattle.session_lines.specs.WordValues.{authority_in, number_up_to, number_within, is_number, bytes_in, state_in, path_in, fields_in}
use Rattle.session_lines.specs.declared.cause.Cause.{Cause}
use Rattle.session_lines.specs.declared.cause.Cause.TheVariants as cause
use Rattle.session_lines.specs.declared.cause.LineFault.{LineFault}
use Rattle.session_lines.specs.declared.cause.LineFault.TheVariants as line
use Rattle.session_lines.specs.declared.session.DriverLine.TheVariants as driver
use Rattle.session_lines.specs.declared.session.Act.TheVariants as act
use Rattle.session_lines.specs.declared.session.Work.{Work}
use Rattle.session_lines.specs.declared.session.Work.TheVariants.{Driver, Caller}
use Rattle.session_lines.specs.declared.session.Line.{Line}

infixl 10 ◌>>=◌
abbrev pub ◌>>=◌ : {A B : Type 0} → Result A Cause → (A → Result B Cause) → Result B Cause
(Ok x) >>= f = f x
(Err e) >>= f = Err e

-- a test that has to hold
abbrev pub check : Bool → Cause → Result (Unit {0}) Cause
check holds cause = if holds then Ok tt else Err cause

-- ---- the driver's lines

abbrev pub opened : Bootstrap → List ℕ → Result Work Cause
opened boot word = do
  authority ← ok_or (authority_in boot.authorities word) cause.Authority
  Ok (Driver (driver.Opened authority))

abbrev pub bytes : Bootstrap → List Line → List ℕ → List ℕ → Result Work Cause
bytes boot before word digits = do
  authority ← ok_or (authority_in boot.authorities word) cause.Authority
  bytes ← ok_or (bytes_in digits) cause.Hex
  _ ← check (nat_le (data_lens before + length bytes) 8388608) cause.Bytes
  Ok (Driver (driver.Bytes authority bytes))

abbrev pub lost : Bootstrap → List ℕ → Result Work Cause
lost boot word = do
  authority ← ok_or (authority_in boot.authorities word) cause.Authority
  Ok (Driver (driver.Lost authority))

abbrev pub moment : List Line → List ℕ → Result Work Cause
moment before word = do
  time ← ok_or (number_up_to 1000000000000 word) cause.Number
  _ ← check (nat_le (latest before) time) cause.Time
  Ok (Driver (driver.Moment record { 0 = time }))

abbrev pub endpoint : List ℕ → List ℕ → Result Work Cause
endpoint address state = do
  address ← ok_or (address_in address) cause.Address
  state ← ok_or (state_in state) cause.State
  Ok (Driver (driver.Endpoint address state))

-- ---- the callers' lines: all numbers first

-- the number of the call, where the caller is written as a number too
abbrev pub call_of : List ℕ → List ℕ → Result ℕ Cause
call_of caller call = do
  _ ← check (is_number caller) cause.Number
  ok_or (number_up_to 65535 call) cause.Number

abbrev pub word_of : List ℕ → Result ℕ Cause
word_of word = ok_or (number_up_to 18446744073709551615 word) cause.Number

-- the caller, where no other one has named the call
abbrev pub caller_of : ℕ → List Line → ℕ → List ℕ → Result ℕ Cause
caller_of callers before id word = do
  caller ← ok_or (number_within 1 callers word) cause.Caller
  _ ← check (not (is_of_other caller id before)) cause.Call
  Ok caller

abbrev pub start : ℕ → List Line → List ℕ → List ℕ → List ℕ → List ℕ → List (List ℕ) → Result Work Cause
start callers before caller call word path fields = do
  id ← call_of caller call
  word ← word_of word
  caller ← caller_of callers before id caller
  _ ← check (not (is_started id before)) cause.Call
  path ← ok_or (path_in path) cause.Path
  headers ← ok_or (fields_in fields) cause.Field
  Ok (Caller caller (act.Start record { id = record { 0 = id }; path = path; headers = headers; word = word }))

abbrev pub pick : ℕ → List Line → List ℕ → List ℕ → List ℕ → Result Work Cause
pick callers before caller call word = do
  id ← call_of caller call
  word ← word_of word
  caller ← caller_of callers before id caller
  Ok (Caller caller (act.Pick record { 0 = id } word))

abbrev pub commit : ℕ → List Line → List ℕ → List ℕ → Result Work Cause
commit callers before caller call = do
  id ← call_of caller call
  caller ← caller_of callers before id caller
  Ok (Caller caller (act.Commit record { 0 = id }))

-- ---- any line

-- what a line of a form says, for this bootstrap and so many callers, after the lines before it
unfoldable pub work_of : Bootstrap → ℕ → List Line → Form → Result Work Cause
work_of boot callers before (form.opened authority) = opened boot authority
work_of boot callers before (form.bytes authority digits) = bytes boot before authority digits
work_of boot callers before (form.lost authority) = lost boot authority
work_of boot callers before (form.moment time) = moment before time
work_of boot callers before (form.endpoint address state) = endpoint address state
work_of boot callers before form.sweep = Ok (Driver driver.Sweep)
work_of boot callers before (form.start caller call word path fields) = start callers before caller call word path fields
work_of boot callers before (form.pick caller call word) = pick callers before caller call word
work_of boot callers before (form.commit caller call) = commit callers before caller call

-- the gate of line n: the number of an earlier line, from line 5 on
abbrev pub some_gate : Option ℕ → Result (Option ℕ) Cause
some_gate None = Err cause.Gate
some_gate (Some gate) = Ok (Some gate)

unfoldable pub gate_of : ℕ → Option (List ℕ) → Result (Option ℕ) Cause
gate_of n None = Ok None
gate_of n (Some word) = some_gate (number_within 5 (n - 1) word)

-- line n of these words
unfoldable pub line_with : Bootstrap → ℕ → List Line → ℕ → Option (List ℕ) × List (List ℕ) → Result Line Cause
line_with boot callers before n words = do
  form ← ok_or (form_of words.1) cause.Word
  gate ← gate_of n words.0
  work ← work_of boot callers before form
  Ok record { number = n; gate = gate; work = work }

-- there are too many lines with this one
abbrev pub is_too_many : List Line → ℕ → List ℕ → Bool
is_too_many before n line = nat_lt 200000 n || (nat_le 20000 (driver_lines before) && is_driver_line line)

-- line n after the lines before it
unfoldable pub line_of : Bootstrap → ℕ → List Line → ℕ → List ℕ → Result Line Cause
line_of boot callers before n line = do
  _ ← check (not (is_too_many before n line)) cause.Lines
  _ ← check (is_utf8 line) cause.Text
  line_with boot callers before n (gate_in (words_of line))

-- ---- what is read, and its faults

-- there was no memory, or the cause is the line's
abbrev pub FailsLine : {A : Type 0} → LineFault → Result A Cause → Type 0
FailsLine line.Memory reading = Unit {0}
FailsLine (line.Because cause) reading = reading ≡ Err cause

abbrev pub GivesLine : {X A : Type 0} → (X → A) → Result X LineFault → Result A Cause → Type 0
GivesLine view (Ok x) reading = reading ≡ Ok (view x)
GivesLine view (Err e) reading = FailsLine e reading
