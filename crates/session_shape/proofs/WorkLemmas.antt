-- What a line from line 5 on does, where it is read.
use Rattle.std.proofs.Common.{◌≡◌, ℕ, ◌+◌, ◌-◌, ◌≤◌, ◌<◌, List, [], ◌∷◌, length, Bool, true, false, not, cond, leb, leb-true, Option, Some, None, option_and_then, Result, Ok, Err, IfOk, refl, sym, ap, ◌∙◌, arith, subst}
use Rattle.std.specs.Option.{ok_or}
use Rattle.xc_base.specs.Addresses.{address_in}
use Rattle.xds_bootstrap.specs.Authorities.{AreAuthorities}
use Rattle.xds_bootstrap.specs.declared.bootstrap.Bootstrap.{Bootstrap}
use Rattle.session_lines.specs.Before.{data_lens, is_of_other, is_started, latest}
use Rattle.session_lines.specs.Forms.{Form}
use Rattle.session_lines.specs.Forms as form
use Rattle.session_lines.specs.WordValues.{authority_in, bytes_in, fields_in, is_number, number_up_to, number_within, path_in, state_in}
use Rattle.session_lines.specs.Works as works
use Rattle.session_lines.specs.Works.{◌>>=◌, call_of, caller_of, check, gate_of, some_gate, word_of, work_of}
use Rattle.session_lines.specs.declared.cause.Cause.{Cause}
use Rattle.session_lines.specs.declared.cause.Cause.TheVariants as cause
use Rattle.session_lines.specs.declared.session.Act.{Act}
use Rattle.session_lines.specs.declared.session.Act.TheVariants as act
use Rattle.session_lines.specs.declared.session.DriverLine.TheVariants as driver
use Rattle.session_lines.specs.declared.session.Line.{Line}
use Rattle.session_lines.specs.declared.session.Work.{Work}
use Rattle.session_lines.specs.declared.session.Work.TheVariants.{Driver, Caller}
use Rattle.session_shape.specs.SessionShape.{IsCalled, IsGate, IsWork}
use Rattle.session_shape.proofs.AuthorityLemmas.{authority_within}

-- ---- steps of a reading

-- what holds after a step and those behind it
pub then_of : {A B : Type 0} (P : B → Type 0) (r : Result A Cause) (f : A → Result B Cause) → ((x : A) → r ≡ Ok x → IfOk (f x) P) → IfOk (r >>= f) P
then_of P (Ok x) f h = h x refl
then_of P (Err e) f h = tt

-- what a step has found
pub some_of : {A : Type 0} (found : Option A) (x : A) (e : Cause) → ok_or found e ≡ Ok x → found ≡ Some x
some_of None x e is = absurd (cc is)
some_of (Some y) x e is = cc is

-- a test has held
held : (b : Bool) (x : Unit {0}) (e : Cause) → check b e ≡ Ok x → b ≡ true
held true x e is = refl
held false x e is = absurd (cc is)

turned : (b : Bool) → not b ≡ true → b ≡ false
turned true h = absurd (cc h)
turned false h = refl

-- ---- numbers

least_by : (least n m : ℕ) (b : Bool) → leb least n ≡ b → cond b (Some n) None ≡ Some m → least ≤ m
least_by least n m true is h = let same : n ≡ m = cc h in grind (arith, leb-true least n is, same)
least_by least n m false is h = absurd (cc h)

least_in : (least : ℕ) (found : Option ℕ) (m : ℕ) → option_and_then (λ n. cond (leb least n) (Some n) None) found ≡ Some m → least ≤ m
least_in least None m is = absurd (cc is)
least_in least (Some n) m is = least_by least n m (leb least n) refl is

most_by : (most n m : ℕ) (b : Bool) → leb n most ≡ b → cond b (Some n) None ≡ Some m → m ≤ most
most_by most n m true is h = let same : n ≡ m = cc h in grind (arith, leb-true n most is, same)
most_by most n m false is h = absurd (cc h)

most_in : (most : ℕ) (found : Option ℕ) (m : ℕ) → option_and_then (λ n. cond (leb n most) (Some n) None) found ≡ Some m → m ≤ most
most_in most None m is = absurd (cc is)
most_in most (Some n) m is = most_by most n m (leb n most) refl is

up_to : (most : ℕ) (word : List ℕ) (m : ℕ) → number_up_to most word ≡ Some m → m ≤ most
unfolding number_up_to
up_to most word m is = most_in most _ m is

same_by : (n m : ℕ) (b : Bool) → cond b (Some n) None ≡ Some m → n ≡ m
same_by n m true h = cc h
same_by n m false h = absurd (cc h)

same_in : (least : ℕ) (found : Option ℕ) (m : ℕ) → option_and_then (λ n. cond (leb least n) (Some n) None) found ≡ Some m → found ≡ Some m
same_in least None m is = absurd (cc is)
same_in least (Some n) m is = ap Some (same_by n m (leb least n) is)

pub within : (least most : ℕ) (word : List ℕ) (m : ℕ) → number_within least most word ≡ Some m → (least ≤ m) × (m ≤ most)
unfolding number_within
within least most word m is = (least_in least (number_up_to most word) m is, up_to most word m (same_in least (number_up_to most word) m is))

-- ---- the driver's lines

opened_reads : (boot : Bootstrap) (callers : ℕ) (before : List Line) (word : List ℕ) → AreAuthorities boot.authorities → IfOk (works.opened boot word) (IsWork boot callers before)
opened_reads boot callers before word are =
    then_of (IsWork boot callers before) (ok_or (authority_in boot.authorities word) cause.Authority) (λ a. Ok (Driver (driver.Opened a)))
    (λ a is. authority_within boot.authorities word a are (some_of (authority_in boot.authorities word) a cause.Authority is))

lost_reads : (boot : Bootstrap) (callers : ℕ) (before : List Line) (word : List ℕ) → AreAuthorities boot.authorities → IfOk (works.lost boot word) (IsWork boot callers before)
lost_reads boot callers before word are =
    then_of (IsWork boot callers before) (ok_or (authority_in boot.authorities word) cause.Authority) (λ a. Ok (Driver (driver.Lost a)))
    (λ a is. authority_within boot.authorities word a are (some_of (authority_in boot.authorities word) a cause.Authority is))

bytes_read : (boot : Bootstrap) (callers : ℕ) (before : List Line) (word digits : List ℕ) → AreAuthorities boot.authorities → IfOk (works.bytes boot before word digits) (IsWork boot callers before)
bytes_read boot callers before word digits are =
    then_of (IsWork boot callers before) (ok_or (authority_in boot.authorities word) cause.Authority)
    (λ a. ok_or (bytes_in digits) cause.Hex >>= λ bytes. check _ cause.Bytes >>= λ _. Ok (Driver (driver.Bytes a bytes)))
    (λ a is. then_of (IsWork boot callers before) (ok_or (bytes_in digits) cause.Hex) (λ bytes. check _ cause.Bytes >>= λ _. Ok (Driver (driver.Bytes a bytes)))
    (λ bytes found. then_of (IsWork boot callers before) (check _ cause.Bytes) (λ _. Ok (Driver (driver.Bytes a bytes)))
    (λ _ few. authority_within boot.authorities word a are (some_of (authority_in boot.authorities word) a cause.Authority is))))

moment_reads : (boot : Bootstrap) (callers : ℕ) (before : List Line) (word : List ℕ) → IfOk (works.moment before word) (IsWork boot callers before)
moment_reads boot callers before word =
    then_of (IsWork boot callers before) (ok_or (number_up_to 1000000000000 word) cause.Number) (λ time. check _ cause.Time >>= λ _. Ok (Driver (driver.Moment record { 0 = time })))
    (λ time is. then_of (IsWork boot callers before) (check _ cause.Time) (λ _. Ok (Driver (driver.Moment record { 0 = time }))) (λ _ late. tt))

endpoint_reads : (boot : Bootstrap) (callers : ℕ) (before : List Line) (word state : List ℕ) → IfOk (works.endpoint word state) (IsWork boot callers before)
endpoint_reads boot callers before word state =
    then_of (IsWork boot callers before) (ok_or (address_in word) cause.Address) (λ address. ok_or (state_in state) cause.State >>= λ s. Ok (Driver (driver.Endpoint address s)))
    (λ address is. then_of (IsWork boot callers before) (ok_or (state_in state) cause.State) (λ s. Ok (Driver (driver.Endpoint address s))) (λ s found. tt))

-- ---- the callers' lines

-- the caller of a call that no other one has named
pub record IsOwn (callers : ℕ) (before : List Line) (id caller : ℕ) : Type 0 where
  pub least : 1 ≤ caller
  pub most : caller ≤ callers
  pub own : is_of_other caller id before ≡ false

caller_reads : (callers : ℕ) (before : List Line) (id : ℕ) (word : List ℕ) → IfOk (caller_of callers before id word) (IsOwn callers before id)
caller_reads callers before id word =
    then_of (IsOwn callers before id) (ok_or (number_within 1 callers word) cause.Caller) (λ caller. check (not (is_of_other caller id before)) cause.Call >>= λ _. Ok caller)
    (λ caller is. then_of (IsOwn callers before id) (check (not (is_of_other caller id before)) cause.Call) (λ _. Ok caller)
    (λ x free. let range = within 1 callers word caller (some_of (number_within 1 callers word) caller cause.Caller is) in record {
      least = range.0;
      most = range.1;
      own = turned (is_of_other caller id before) (held (not (is_of_other caller id before)) x cause.Call free);
    }))

ok_is : {A : Type 0} (P : A → Type 0) (r : Result A Cause) (x : A) → r ≡ Ok x → IfOk r P → P x
ok_is P (Ok y) x is h = subst P (cc is) h
ok_is P (Err e) x is h = absurd (cc is)

pick_reads : (boot : Bootstrap) (callers : ℕ) (before : List Line) (caller call word : List ℕ) → IfOk (works.pick callers before caller call word) (IsWork boot callers before)
pick_reads boot callers before caller call word =
    then_of (IsWork boot callers before) (call_of caller call) (λ id. word_of word >>= λ w. caller_of callers before id caller >>= λ c. Ok (Caller c (act.Pick record { 0 = id } w)))
    (λ id is. then_of (IsWork boot callers before) (word_of word) (λ w. caller_of callers before id caller >>= λ c. Ok (Caller c (act.Pick record { 0 = id } w)))
    (λ w found. then_of (IsWork boot callers before) (caller_of callers before id caller) (λ c. Ok (Caller c (act.Pick record { 0 = id } w)))
    (λ c own. let o = ok_is (IsOwn callers before id) (caller_of callers before id caller) c own (caller_reads callers before id caller) in record {
      least = o.least;
      most = o.most;
      own = o.own;
      new = λ starts. absurd (cc starts);
    })))

commit_reads : (boot : Bootstrap) (callers : ℕ) (before : List Line) (caller call : List ℕ) → IfOk (works.commit callers before caller call) (IsWork boot callers before)
commit_reads boot callers before caller call =
    then_of (IsWork boot callers before) (call_of caller call) (λ id. caller_of callers before id caller >>= λ c. Ok (Caller c (act.Commit record { 0 = id })))
    (λ id is. then_of (IsWork boot callers before) (caller_of callers before id caller) (λ c. Ok (Caller c (act.Commit record { 0 = id })))
    (λ c own. let o = ok_is (IsOwn callers before id) (caller_of callers before id caller) c own (caller_reads callers before id caller) in record {
      least = o.least;
      most = o.most;
      own = o.own;
      new = λ starts. absurd (cc starts);
    }))

-- a start behind the test that the call is new
abbrev start_new : List Line → ℕ → ℕ → ℕ → List ℕ → List (List ℕ) → Result Work Cause
start_new before id w c path fields =
    check (not (is_started id before)) cause.Call >>= λ _. ok_or (path_in path) cause.Path >>= λ p. ok_or (fields_in fields) cause.Field
    >>= λ headers. Ok (Caller c (act.Start record { id = record { 0 = id }; path = p; headers = headers; word = w }))

new_reads : (boot : Bootstrap) (callers : ℕ) (before : List Line) (id w c : ℕ) (path : List ℕ) (fields : List (List ℕ)) → IsOwn callers before id c → IfOk (start_new before id w c path fields) (IsWork boot callers before)
new_reads boot callers before id w c path fields o =
    then_of (IsWork boot callers before) (check (not (is_started id before)) cause.Call)
    (λ _. ok_or (path_in path) cause.Path >>= λ p. ok_or (fields_in fields) cause.Field >>= λ headers. Ok (Caller c (act.Start record { id = record { 0 = id }; path = p; headers = headers; word = w })))
    (λ x new. then_of (IsWork boot callers before) (ok_or (path_in path) cause.Path)
    (λ p. ok_or (fields_in fields) cause.Field >>= λ headers. Ok (Caller c (act.Start record { id = record { 0 = id }; path = p; headers = headers; word = w })))
    (λ p found. then_of (IsWork boot callers before) (ok_or (fields_in fields) cause.Field) (λ headers. Ok (Caller c (act.Start record { id = record { 0 = id }; path = p; headers = headers; word = w })))
    (λ headers all. record {
      least = o.least;
      most = o.most;
      own = o.own;
      new = λ starts. turned (is_started id before) (held (not (is_started id before)) x cause.Call new);
    })))

start_reads : (boot : Bootstrap) (callers : ℕ) (before : List Line) (caller call word path : List ℕ) (fields : List (List ℕ))
    → IfOk (works.start callers before caller call word path fields) (IsWork boot callers before)
start_reads boot callers before caller call word path fields =
    then_of (IsWork boot callers before) (call_of caller call) (λ id. word_of word >>= λ w. caller_of callers before id caller >>= λ c. start_new before id w c path fields)
    (λ id is. then_of (IsWork boot callers before) (word_of word) (λ w. caller_of callers before id caller >>= λ c. start_new before id w c path fields)
    (λ w found. then_of (IsWork boot callers before) (caller_of callers before id caller) (λ c. start_new before id w c path fields)
    (λ c own. new_reads boot callers before id w c path fields (ok_is (IsOwn callers before id) (caller_of callers before id caller) c own (caller_reads callers before id caller)))))

-- ---- any line

pub work_reads : (boot : Bootstrap) (callers : ℕ) (before : List Line) (f : Form) → AreAuthorities boot.authorities → IfOk (work_of boot callers before f) (IsWork boot callers before)
unfolding work_of
work_reads boot callers before (form.opened word) are = opened_reads boot callers before word are
work_reads boot callers before (form.bytes word digits) are = bytes_read boot callers before word digits are
work_reads boot callers before (form.lost word) are = lost_reads boot callers before word are
work_reads boot callers before (form.moment time) are = moment_reads boot callers before time
work_reads boot callers before (form.endpoint address state) are = endpoint_reads boot callers before address state
work_reads boot callers before form.sweep are = tt
work_reads boot callers before (form.start caller call word path fields) are = start_reads boot callers before caller call word path fields
work_reads boot callers before (form.pick caller call word) are = pick_reads boot callers before caller call word
work_reads boot callers before (form.commit caller call) are = commit_reads boot callers before caller call

gate_in : (n : ℕ) (word : List ℕ) (found : Option ℕ) → 5 ≤ n → number_within 5 (n - 1) word ≡ found → IfOk (some_gate found) (IsGate n)
gate_in n word None least is = tt
gate_in n word (Some gate) least is = let range = within 5 (n - 1) word gate is in (range.0, omega (arith, least, range.1))

pub gate_reads : (n : ℕ) (word : Option (List ℕ)) → 5 ≤ n → IfOk (gate_of n word) (IsGate n)
unfolding gate_of
gate_reads n None least = tt
gate_reads n (Some word) least = gate_in n word (number_within 5 (n - 1) word) least refl
