-- The checks of a line and the table of its faults.
use Rattle.std.proofs.Common.{◌≡◌, ℕ, ◌+◌, ◌-◌, Bool, true, false, not, ◌||◌, List, [], ◌∷◌, length, Option, Some, None, Result, Ok, Err, refl, ◌∙◌}
use Rattle.std.specs.Prelude.{is_none, unwrap_or, nat_le}
use Rattle.std.specs.Option.{ok_or}
use Rattle.std.specs.Str.{is_utf8}
use Rattle.xc_base.specs.Addresses.{address_in}
use Rattle.xc_base.specs.declared.call.Header.{Header}
use Rattle.xc_base.specs.declared.names.Authority.{Authority}
use Rattle.xc_base.specs.declared.names.State.{State}
use Rattle.xds_bootstrap.specs.declared.bootstrap.Bootstrap.{Bootstrap}
use Rattle.session_lines.specs.Lines.{words_of}
use Rattle.session_lines.specs.Forms.{Form, form_of, gate_in}
use Rattle.session_lines.specs.Forms as form
use Rattle.session_lines.specs.Before.{data_lens, latest, is_of_other, is_started}
use Rattle.session_lines.specs.WordValues.{authority_in, number_up_to, number_within, is_number, bytes_in, state_in, path_in, fields_in}
use Rattle.session_lines.specs.Works.{◌>>=◌, check, some_gate, work_of, gate_of, line_with, line_of, is_too_many}
use Rattle.session_script.specs.Table.{first_of, fault_in, no_gate, form_faults, faults_with, faults_of}
use Rattle.session_lines.specs.declared.cause.Cause.{Cause}
use Rattle.session_lines.specs.declared.cause.Cause.TheVariants as cause
use Rattle.session_lines.specs.declared.session.Line.{Line}
use Rattle.session_lines.specs.declared.session.Work.{Work}

-- a test that has to hold, before others
checked : {A : Type 0} (b : Bool) (c : Cause) (reading : Result A Cause) (rows : List (Bool × Cause)) → fault_in reading ≡ first_of rows
    → fault_in (check b c >>= λ _. reading) ≡ first_of ((not b, c) ∷ rows)
checked true c reading rows h = h
checked false c reading rows h = refl

-- a value that has to be there, at the end
found : {X A : Type 0} (o : Option X) (c : Cause) (made : X → A) → fault_in (ok_or o c >>= λ x. Ok (made x)) ≡ first_of ((is_none o, c) ∷ [])
found None c made = refl
found (Some x) c made = refl

bytes_faults : {A : Type 0} (a : Option Authority) (b : Option (List ℕ)) (before : ℕ) (made : Authority → List ℕ → A)
    → fault_in (ok_or a cause.Authority >>= λ x. ok_or b cause.Hex >>= λ y. check (nat_le (before + length y) 8388608) cause.Bytes >>= λ _. Ok (made x y))
    ≡ first_of ((is_none a, cause.Authority) ∷ (is_none b, cause.Hex) ∷ (not (nat_le (before + length (unwrap_or b [])) 8388608), cause.Bytes) ∷ [])
bytes_faults None b before made = refl
bytes_faults (Some a) None before made = refl
bytes_faults (Some a) (Some b) before made = checked (nat_le (before + length b) 8388608) cause.Bytes (Ok (made a b)) [] refl

moment_faults : {A : Type 0} (t : Option ℕ) (now : ℕ) (made : ℕ → A)
    → fault_in (ok_or t cause.Number >>= λ x. check (nat_le now x) cause.Time >>= λ _. Ok (made x))
    ≡ first_of ((is_none t, cause.Number) ∷ (not (nat_le now (unwrap_or t 0)), cause.Time) ∷ [])
moment_faults None now made = refl
moment_faults (Some t) now made = checked (nat_le now t) cause.Time (Ok (made t)) [] refl

endpoint_faults : {A : Type 0} (a : Option (List ℕ)) (s : Option State) (made : List ℕ → State → A)
    → fault_in (ok_or a cause.Address >>= λ x. ok_or s cause.State >>= λ y. Ok (made x y)) ≡ first_of ((is_none a, cause.Address) ∷ (is_none s, cause.State) ∷ [])
endpoint_faults None s made = refl
endpoint_faults (Some a) None made = refl
endpoint_faults (Some a) (Some s) made = refl

-- a test that must not hold, before others
unless : {A : Type 0} (b : Bool) (c : Cause) (reading : Result A Cause) (rows : List (Bool × Cause)) → fault_in reading ≡ first_of rows
    → fault_in (check (not b) c >>= λ _. reading) ≡ first_of ((b, c) ∷ rows)
unless true c reading rows h = refl
unless false c reading rows h = h

commit_faults : {A : Type 0} (n : Bool) (id caller : Option ℕ) (other : ℕ → ℕ → Bool) (made : ℕ → ℕ → A)
    → fault_in ((check n cause.Number >>= λ _. ok_or id cause.Number) >>= λ i. (ok_or caller cause.Caller >>= λ k. check (not (other k i)) cause.Call >>= λ _. Ok k) >>= λ k. Ok (made k i))
    ≡ first_of ((not n || is_none id, cause.Number) ∷ (is_none caller, cause.Caller) ∷ (other (unwrap_or caller 0) (unwrap_or id 0), cause.Call) ∷ [])
commit_faults false id caller other made = refl
commit_faults true None caller other made = refl
commit_faults true (Some i) None other made = refl
commit_faults true (Some i) (Some k) other made = by_other (other k i)
  where
    by_other : (b : Bool) → fault_in ((check (not b) cause.Call >>= λ _. Ok k) >>= λ k. Ok (made k i)) ≡ first_of ((b, cause.Call) ∷ [])
    by_other true = refl
    by_other false = refl

pick_faults : {A : Type 0} (n : Bool) (id word caller : Option ℕ) (other : ℕ → ℕ → Bool) (made : ℕ → ℕ → ℕ → A)
    → fault_in ((check n cause.Number >>= λ _. ok_or id cause.Number) >>= λ i. ok_or word cause.Number >>= λ w. (ok_or caller cause.Caller >>= λ k. check (not (other k i)) cause.Call >>= λ _. Ok k) >>= λ k. Ok (made k i w))
    ≡ first_of (((not n || is_none id) || is_none word, cause.Number) ∷ (is_none caller, cause.Caller) ∷ (other (unwrap_or caller 0) (unwrap_or id 0), cause.Call) ∷ [])
pick_faults false id word caller other made = refl
pick_faults true None word caller other made = refl
pick_faults true (Some i) None caller other made = refl
pick_faults true (Some i) (Some w) None other made = refl
pick_faults true (Some i) (Some w) (Some k) other made = by_other (other k i)
  where
    by_other : (b : Bool) → fault_in ((check (not b) cause.Call >>= λ _. Ok k) >>= λ k. Ok (made k i w)) ≡ first_of ((b, cause.Call) ∷ [])
    by_other true = refl
    by_other false = refl

start_rest : {A : Type 0} (o s : Bool) (path : Option (List ℕ)) (fields : Option (List Header)) (k : ℕ) (made : List ℕ → List Header → ℕ → A)
    → fault_in ((check (not o) cause.Call >>= λ _. Ok k) >>= λ k. check (not s) cause.Call >>= λ _. ok_or path cause.Path >>= λ p. ok_or fields cause.Field >>= λ f. Ok (made p f k))
    ≡ first_of ((o || s, cause.Call) ∷ (is_none path, cause.Path) ∷ (is_none fields, cause.Field) ∷ [])
start_rest true s path fields k made = refl
start_rest false true path fields k made = refl
start_rest false false None fields k made = refl
start_rest false false (Some p) None k made = refl
start_rest false false (Some p) (Some f) k made = refl

start_faults : {A : Type 0} (n : Bool) (id word caller : Option ℕ) (other : ℕ → ℕ → Bool) (started : ℕ → Bool) (path : Option (List ℕ)) (fields : Option (List Header))
    (made : List ℕ → List Header → ℕ → ℕ → ℕ → A)
    → fault_in ((check n cause.Number >>= λ _. ok_or id cause.Number) >>= λ i. ok_or word cause.Number >>= λ w. (ok_or caller cause.Caller >>= λ k. check (not (other k i)) cause.Call >>= λ _. Ok k)
    >>= λ k. check (not (started i)) cause.Call >>= λ _. ok_or path cause.Path >>= λ p. ok_or fields cause.Field >>= λ f. Ok (made p f k i w))
    ≡ first_of (((not n || is_none id) || is_none word, cause.Number) ∷ (is_none caller, cause.Caller) ∷ (other (unwrap_or caller 0) (unwrap_or id 0) || started (unwrap_or id 0), cause.Call)
    ∷ (is_none path, cause.Path) ∷ (is_none fields, cause.Field) ∷ [])
start_faults false id word caller other started path fields made = refl
start_faults true None word caller other started path fields made = refl
start_faults true (Some i) None caller other started path fields made = refl
start_faults true (Some i) (Some w) None other started path fields made = refl
start_faults true (Some i) (Some w) (Some k) other started path fields made = start_rest (other k i) (started i) path fields k (λ p f k. made p f k i w)

work_faults : (boot : Bootstrap) (callers : ℕ) (before : List Line) (f : Form) → fault_in (work_of boot callers before f) ≡ first_of (form_faults boot callers before f)
unfolding work_of
work_faults boot callers before (form.opened word) = found (authority_in boot.authorities word) cause.Authority _
work_faults boot callers before (form.bytes word digits) = bytes_faults (authority_in boot.authorities word) (bytes_in digits) (data_lens before) _
work_faults boot callers before (form.lost word) = found (authority_in boot.authorities word) cause.Authority _
work_faults boot callers before (form.moment time) = moment_faults (number_up_to 1000000000000 time) (latest before) _
work_faults boot callers before (form.endpoint address state) = endpoint_faults (address_in address) (state_in state) _
work_faults boot callers before form.sweep = refl
work_faults boot callers before (form.start caller call word path fields) =
    start_faults (is_number caller) (number_up_to 65535 call) (number_up_to 18446744073709551615 word) (number_within 1 callers caller)
    (λ k i. is_of_other k i before) (λ i. is_started i before) (path_in path) (fields_in fields) _
work_faults boot callers before (form.pick caller call word) =
    pick_faults (is_number caller) (number_up_to 65535 call) (number_up_to 18446744073709551615 word) (number_within 1 callers caller) (λ k i. is_of_other k i before) _
work_faults boot callers before (form.commit caller call) =
    commit_faults (is_number caller) (number_up_to 65535 call) (number_within 1 callers caller) (λ k i. is_of_other k i before) _

-- ---- the whole line

with_work : {A B : Type 0} (reading : Result A Cause) (made : A → B) → fault_in (reading >>= λ x. Ok (made x)) ≡ fault_in reading
with_work (Ok x) made = refl
with_work (Err c) made = refl

gated : {A : Type 0} (n : ℕ) (gate : Option (List ℕ)) (rest : Option ℕ → Result A Cause) (rows : List (Bool × Cause)) → ((g : Option ℕ) → fault_in (rest g) ≡ first_of rows)
    → fault_in (gate_of n gate >>= rest) ≡ first_of ((no_gate n gate, cause.Gate) ∷ rows)
unfolding gate_of
gated n None rest rows h = h None
gated n (Some word) rest rows h = by_number (number_within 5 (n - 1) word)
  where
    by_number : (o : Option ℕ) → fault_in (some_gate o >>= rest) ≡ first_of ((is_none o, cause.Gate) ∷ rows)
    by_number None = refl
    by_number (Some g) = h (Some g)

with_form : (boot : Bootstrap) (callers : ℕ) (before : List Line) (n : ℕ) (gate : Option (List ℕ)) (o : Option Form) (made : Option ℕ → Work → Line)
    → fault_in (ok_or o cause.Word >>= λ f. gate_of n gate >>= λ g. work_of boot callers before f >>= λ w. Ok (made g w)) ≡ first_of (faults_with boot callers before n gate o)
with_form boot callers before n gate None made = refl
with_form boot callers before n gate (Some f) made =
    gated n gate (λ g. work_of boot callers before f >>= λ w. Ok (made g w)) (form_faults boot callers before f)
    (λ g. with_work (work_of boot callers before f) (made g) ∙ work_faults boot callers before f)

pub line_faults : (boot : Bootstrap) (callers : ℕ) (before : List Line) (n : ℕ) (line : List ℕ)
    → fault_in (line_of boot callers before n line) ≡ first_of (faults_of boot callers before n line)
unfolding line_of line_with
line_faults boot callers before n line =
    unless (is_too_many before n line) cause.Lines (check (is_utf8 line) cause.Text >>= λ _. line_with boot callers before n (gate_in (words_of line)))
    ((not (is_utf8 line), cause.Text) ∷ faults_with boot callers before n (gate_in (words_of line)).0 (form_of (gate_in (words_of line)).1))
    (checked (is_utf8 line) cause.Text (line_with boot callers before n (gate_in (words_of line)))
    (faults_with boot callers before n (gate_in (words_of line)).0 (form_of (gate_in (words_of line)).1))
    (with_form boot callers before n (gate_in (words_of line)).0 (form_of (gate_in (words_of line)).1) (λ g w. record { number = n; gate = g; work = w })))
