-- The faults of a line from line 5 on, in the order in which they are looked for; and the forms (this project's own format).
use Rattle.std.specs.Prelude.{◌≡◌, ◌↔◌, ℕ, ◌+◌, ◌-◌, List, [], ◌∷◌, length, codes, Bool, false, not, ◌||◌, nat_le, if◌then◌else◌, Option, Some, None, is_none, unwrap_or, Result, Ok, Err}
use Rattle.std.specs.Str.{is_utf8}
use Rattle.xc_base.specs.Addresses.{address_in}
use Rattle.xds_bootstrap.specs.declared.bootstrap.Bootstrap.{Bootstrap}
use Rattle.session_lines.specs.Lines.{words_of}
use Rattle.session_lines.specs.Forms.{Form, form_of, gate_in}
use Rattle.session_lines.specs.Forms as form
use Rattle.session_lines.specs.Before.{data_lens, latest, is_of_other, is_started}
use Rattle.session_lines.specs.WordValues.{authority_in, number_up_to, number_within, is_number, bytes_in, state_in, path_in, fields_in}
use Rattle.session_lines.specs.Works.{is_too_many, line_of}
use Rattle.session_lines.specs.declared.cause.Cause.{Cause}
use Rattle.session_lines.specs.declared.cause.Cause.TheVariants as cause
use Rattle.session_lines.specs.declared.session.Line.{Line}

-- ---- the forms

-- words that have a form
pub data IsForm : List (List ℕ) → Form → Type 0 where
  opened : (authority : List ℕ) → IsForm (codes "d" ∷ codes "open" ∷ authority ∷ []) (form.opened authority)
  bytes : (authority digits : List ℕ) → IsForm (codes "d" ∷ codes "data" ∷ authority ∷ digits ∷ []) (form.bytes authority digits)
  lost : (authority : List ℕ) → IsForm (codes "d" ∷ codes "lost" ∷ authority ∷ []) (form.lost authority)
  moment : (time : List ℕ) → IsForm (codes "d" ∷ codes "time" ∷ time ∷ []) (form.moment time)
  endpoint : (address state : List ℕ) → IsForm (codes "d" ∷ codes "endpoint" ∷ address ∷ state ∷ []) (form.endpoint address state)
  sweep : IsForm (codes "d" ∷ codes "sweep" ∷ []) form.sweep
  start : (caller call word path : List ℕ) → (fields : List (List ℕ))
      → IsForm (codes "c" ∷ caller ∷ codes "start" ∷ call ∷ word ∷ path ∷ fields) (form.start caller call word path fields)
  pick : (caller call word : List ℕ) → IsForm (codes "c" ∷ caller ∷ codes "pick" ∷ call ∷ word ∷ []) (form.pick caller call word)
  commit : (caller call : List ℕ) → IsForm (codes "c" ∷ caller ∷ codes "commit" ∷ call ∷ []) (form.commit caller call)

-- the form that is found is the one that the words have
abbrev pub FormsAreListed : Type 0
FormsAreListed = (words : List (List ℕ)) (found : Form) → (form_of words ≡ Some found) ↔ IsForm words found

-- ---- the faults, each where its test holds

-- what follows the `@` isn't the number of an earlier line from line 5 on
abbrev pub no_gate : ℕ → Option (List ℕ) → Bool
no_gate n None = false
no_gate n (Some word) = is_none (number_within 5 (n - 1) word)

-- the authority isn't in the bootstrap
abbrev pub no_authority : Bootstrap → Form → Bool
no_authority boot (form.opened word) = is_none (authority_in boot.authorities word)
no_authority boot (form.bytes word digits) = is_none (authority_in boot.authorities word)
no_authority boot (form.lost word) = is_none (authority_in boot.authorities word)
no_authority boot (form.moment time) = false
no_authority boot (form.endpoint address state) = false
no_authority boot form.sweep = false
no_authority boot (form.start caller call word path fields) = false
no_authority boot (form.pick caller call word) = false
no_authority boot (form.commit caller call) = false

-- the data is odd or not hexadecimal, or empty
abbrev pub no_data : Form → Bool
no_data (form.opened word) = false
no_data (form.bytes word digits) = is_none (bytes_in digits)
no_data (form.lost word) = false
no_data (form.moment time) = false
no_data (form.endpoint address state) = false
no_data form.sweep = false
no_data (form.start caller call word path fields) = false
no_data (form.pick caller call word) = false
no_data (form.commit caller call) = false

-- the data lines so far have more than 8,388,608 bytes
abbrev pub much_data : List Line → Form → Bool
much_data before (form.opened word) = false
much_data before (form.bytes word digits) = not (nat_le (data_lens before + length (unwrap_or (bytes_in digits) [])) 8388608)
much_data before (form.lost word) = false
much_data before (form.moment time) = false
much_data before (form.endpoint address state) = false
much_data before form.sweep = false
much_data before (form.start caller call word path fields) = false
much_data before (form.pick caller call word) = false
much_data before (form.commit caller call) = false

-- a caller isn't written as a number, or a call isn't one up to 65,535
abbrev pub no_call : List ℕ → List ℕ → Bool
no_call caller call = not (is_number caller) || is_none (number_up_to 65535 call)

abbrev pub no_word : List ℕ → Bool
no_word word = is_none (number_up_to 18446744073709551615 word)

-- a number isn't written as one, or is out of range
abbrev pub no_number : Form → Bool
no_number (form.opened word) = false
no_number (form.bytes word digits) = false
no_number (form.lost word) = false
no_number (form.moment time) = is_none (number_up_to 1000000000000 time)
no_number (form.endpoint address state) = false
no_number form.sweep = false
no_number (form.start caller call word path fields) = no_call caller call || no_word word
no_number (form.pick caller call word) = no_call caller call || no_word word
no_number (form.commit caller call) = no_call caller call

-- the time is less than an earlier one
abbrev pub falls : List Line → Form → Bool
falls before (form.opened word) = false
falls before (form.bytes word digits) = false
falls before (form.lost word) = false
falls before (form.moment time) = not (nat_le (latest before) (unwrap_or (number_up_to 1000000000000 time) 0))
falls before (form.endpoint address state) = false
falls before form.sweep = false
falls before (form.start caller call word path fields) = false
falls before (form.pick caller call word) = false
falls before (form.commit caller call) = false

-- the address isn't numeric with a port
abbrev pub no_address : Form → Bool
no_address (form.opened word) = false
no_address (form.bytes word digits) = false
no_address (form.lost word) = false
no_address (form.moment time) = false
no_address (form.endpoint address state) = is_none (address_in address)
no_address form.sweep = false
no_address (form.start caller call word path fields) = false
no_address (form.pick caller call word) = false
no_address (form.commit caller call) = false

-- the state is none of the four words
abbrev pub no_state : Form → Bool
no_state (form.opened word) = false
no_state (form.bytes word digits) = false
no_state (form.lost word) = false
no_state (form.moment time) = false
no_state (form.endpoint address state) = is_none (state_in state)
no_state form.sweep = false
no_state (form.start caller call word path fields) = false
no_state (form.pick caller call word) = false
no_state (form.commit caller call) = false

-- the caller is 0 or above the number of callers
abbrev pub no_caller : ℕ → Form → Bool
no_caller callers (form.opened word) = false
no_caller callers (form.bytes word digits) = false
no_caller callers (form.lost word) = false
no_caller callers (form.moment time) = false
no_caller callers (form.endpoint address state) = false
no_caller callers form.sweep = false
no_caller callers (form.start caller call word path fields) = is_none (number_within 1 callers caller)
no_caller callers (form.pick caller call word) = is_none (number_within 1 callers caller)
no_caller callers (form.commit caller call) = is_none (number_within 1 callers caller)

-- the call was named before by another caller
abbrev pub is_others : ℕ → List Line → List ℕ → List ℕ → Bool
is_others callers before caller call = is_of_other (unwrap_or (number_within 1 callers caller) 0) (unwrap_or (number_up_to 65535 call) 0) before

-- so it was, or a call that starts was started by an earlier line
abbrev pub is_taken : ℕ → List Line → Form → Bool
is_taken callers before (form.opened word) = false
is_taken callers before (form.bytes word digits) = false
is_taken callers before (form.lost word) = false
is_taken callers before (form.moment time) = false
is_taken callers before (form.endpoint address state) = false
is_taken callers before form.sweep = false
is_taken callers before (form.start caller call word path fields) = is_others callers before caller call || is_started (unwrap_or (number_up_to 65535 call) 0) before
is_taken callers before (form.pick caller call word) = is_others callers before caller call
is_taken callers before (form.commit caller call) = is_others callers before caller call

-- the path doesn't begin with `/`
abbrev pub no_path : Form → Bool
no_path (form.opened word) = false
no_path (form.bytes word digits) = false
no_path (form.lost word) = false
no_path (form.moment time) = false
no_path (form.endpoint address state) = false
no_path form.sweep = false
no_path (form.start caller call word path fields) = is_none (path_in path)
no_path (form.pick caller call word) = false
no_path (form.commit caller call) = false

-- a header field isn't one, or there are more than 64
abbrev pub no_fields : Form → Bool
no_fields (form.opened word) = false
no_fields (form.bytes word digits) = false
no_fields (form.lost word) = false
no_fields (form.moment time) = false
no_fields (form.endpoint address state) = false
no_fields form.sweep = false
no_fields (form.start caller call word path fields) = is_none (fields_in fields)
no_fields (form.pick caller call word) = false
no_fields (form.commit caller call) = false

-- ---- the table

-- the cause of the first row whose test holds
abbrev pub first_of : List (Bool × Cause) → Option Cause
first_of [] = None
first_of (row ∷ rows) = if row.0 then Some row.1 else first_of rows

-- the rows of a line of a form
abbrev pub form_faults : Bootstrap → ℕ → List Line → Form → List (Bool × Cause)
form_faults boot callers before form =
    (no_authority boot form, cause.Authority)
    ∷ (no_data form, cause.Hex)
    ∷ (much_data before form, cause.Bytes)
    ∷ (no_number form, cause.Number)
    ∷ (falls before form, cause.Time)
    ∷ (no_address form, cause.Address)
    ∷ (no_state form, cause.State)
    ∷ (no_caller callers form, cause.Caller)
    ∷ (is_taken callers before form, cause.Call)
    ∷ (no_path form, cause.Path)
    ∷ (no_fields form, cause.Field)
    ∷ []

abbrev pub faults_in : Bootstrap → ℕ → List Line → Option Form → List (Bool × Cause)
faults_in boot callers before None = []
faults_in boot callers before (Some form) = form_faults boot callers before form

abbrev pub faults_with : Bootstrap → ℕ → List Line → ℕ → Option (List ℕ) → Option Form → List (Bool × Cause)
faults_with boot callers before n gate form =
    (is_none form, cause.Word)
    ∷ (no_gate n gate, cause.Gate)
    ∷ faults_in boot callers before form

-- the rows of line n, after the lines before it
abbrev pub faults_of : Bootstrap → ℕ → List Line → ℕ → List ℕ → List (Bool × Cause)
faults_of boot callers before n line =
    (is_too_many before n line, cause.Lines)
    ∷ (not (is_utf8 line), cause.Text)
    ∷ faults_with boot callers before n (gate_in (words_of line)).0 (form_of (gate_in (words_of line)).1)

-- the fault of a reading
abbrev pub fault_in : {A : Type 0} → Result A Cause → Option Cause
fault_in (Ok x) = None
fault_in (Err cause) = Some cause

-- a line is refused where a test of the table holds, with the first such cause, and nowhere else
abbrev pub FaultsAreInOrder : Type 0
FaultsAreInOrder = (boot : Bootstrap) (callers : ℕ) (before : List Line) (n : ℕ) (line : List ℕ)
    → fault_in (line_of boot callers before n line) ≡ first_of (faults_of boot callers before n line)
