-- A line of a session: its number is one of few, and its address has no line feed.
use Rattle.std.proofs.Common.{◌≡◌, ℕ, ◌<◌, ◌^◌, List, Bool, true, false, not, ltb, ◌||◌, Option, Some, None, Result, Ok, Err, refl, subst, arith}
use Rattle.std.specs.Option.{ok_or}
use Rattle.std.specs.Str.{is_utf8}
use Rattle.std.proofs.lemmas.Bool.Decides.{nat_tests}
use Rattle.xc_base.specs.Addresses.{address_in}
use Rattle.xds_bootstrap.specs.declared.bootstrap.Bootstrap.{Bootstrap}
use Rattle.session_lines.specs.Forms.{Form, form_of, gate_in}
use Rattle.session_lines.specs.Forms as form
use Rattle.session_lines.specs.Lines.{words_of}
use Rattle.session_lines.specs.WordValues.{state_in}
use Rattle.session_lines.specs.Works.{◌>>=◌, bytes, check, commit, endpoint, gate_of, is_too_many, line_of, line_with, lost, moment, opened, pick, start, work_of}
use Rattle.session_lines.specs.declared.cause.Cause.{Cause}
use Rattle.session_lines.specs.declared.cause.Cause.TheVariants as cause
use Rattle.session_lines.specs.declared.session.DriverLine.{DriverLine}
use Rattle.session_lines.specs.declared.session.Line.{Line}
use Rattle.session_lines.specs.declared.session.Work.{Work}
use Rattle.turn_law.proofs.AddressLemmas.{address_feed}
use Rattle.turn_law.proofs.FeedLemmas.{NoFeed}

-- ---- works

-- the address whose state a line reports has no line feed
abbrev pub IsPlainWork : Work → Type 0
IsPlainWork (Work.Driver (DriverLine.Endpoint address state)) = NoFeed address
IsPlainWork _ = Unit {0}

-- what a reading gives
pub record Gives {A : Type 0} (P : A → Type 0) (r : Result A Cause) : Type 0 where
  pub says : (x : A) → r ≡ Ok x → P x

given : {A : Type 0} (P : A → Type 0) (x : A) → P x → Gives P (Ok x)
given P x h = record { says = λ y e. let same : x ≡ y = cc e in subst P same h }

refused : {A : Type 0} (P : A → Type 0) (c : Cause) → Gives P (Err c)
refused P c = record { says = λ y e. absurd (cc e) }

-- a step of which something is known, and one of which nothing is wanted
known : {A B : Type 0} (Q : A → Type 0) (P : B → Type 0) (r : Result A Cause) (f : A → Result B Cause) → Gives Q r → ((x : A) → Q x → Gives P (f x)) → Gives P (r >>= f)
known Q P (Ok x) f h k = k x (h.says x refl)
known Q P (Err c) f h k = refused P c

past : {A B : Type 0} (P : B → Type 0) (r : Result A Cause) (f : A → Result B Cause) → ((x : A) → Gives P (f x)) → Gives P (r >>= f)
past P (Ok x) f k = k x
past P (Err c) f k = refused P c

found : (word : List ℕ) (o : Option (List ℕ)) → address_in word ≡ o → Gives NoFeed (ok_or o cause.Address)
found word None e = refused NoFeed cause.Address
found word (Some address) e = given NoFeed address (address_feed word address e)

endpoint_plain : (address state : List ℕ) → Gives IsPlainWork (endpoint address state)
endpoint_plain address state =
    known NoFeed IsPlainWork (ok_or (address_in address) cause.Address) (λ a. ok_or (state_in state) cause.State >>= λ s. Ok (Work.Driver (DriverLine.Endpoint a s)))
    (found address (address_in address) refl)
    (λ a h. past IsPlainWork (ok_or (state_in state) cause.State) (λ s. Ok (Work.Driver (DriverLine.Endpoint a s))) (λ s. given IsPlainWork (Work.Driver (DriverLine.Endpoint a s)) h))

opened_plain : (boot : Bootstrap) (word : List ℕ) → Gives IsPlainWork (opened boot word)
opened_plain boot word = search (past, given) depth 25

bytes_plain : (boot : Bootstrap) (before : List Line) (word hex : List ℕ) → Gives IsPlainWork (bytes boot before word hex)
bytes_plain boot before word hex = search (past, given) depth 25

lost_plain : (boot : Bootstrap) (word : List ℕ) → Gives IsPlainWork (lost boot word)
lost_plain boot word = search (past, given) depth 25

moment_plain : (before : List Line) (word : List ℕ) → Gives IsPlainWork (moment before word)
moment_plain before word = search (past, given) depth 25

start_plain : (callers : ℕ) (before : List Line) (caller call word path : List ℕ) (fields : List (List ℕ)) → Gives IsPlainWork (start callers before caller call word path fields)
start_plain callers before caller call word path fields = search (past, given) depth 40

pick_plain : (callers : ℕ) (before : List Line) (caller call word : List ℕ) → Gives IsPlainWork (pick callers before caller call word)
pick_plain callers before caller call word = search (past, given) depth 25

commit_plain : (callers : ℕ) (before : List Line) (caller call : List ℕ) → Gives IsPlainWork (commit callers before caller call)
commit_plain callers before caller call = search (past, given) depth 25

work_plain : (boot : Bootstrap) (callers : ℕ) (before : List Line) (f : Form) → Gives IsPlainWork (work_of boot callers before f)
unfolding work_of
work_plain boot callers before (form.opened authority) = opened_plain boot authority
work_plain boot callers before (form.bytes authority hex) = bytes_plain boot before authority hex
work_plain boot callers before (form.lost authority) = lost_plain boot authority
work_plain boot callers before (form.moment time) = moment_plain before time
work_plain boot callers before (form.endpoint address state) = endpoint_plain address state
work_plain boot callers before form.sweep = given IsPlainWork (Work.Driver DriverLine.Sweep) tt
work_plain boot callers before (form.start caller call word path fields) = start_plain callers before caller call word path fields
work_plain boot callers before (form.pick caller call word) = pick_plain callers before caller call word
work_plain boot callers before (form.commit caller call) = commit_plain callers before caller call

-- ---- lines

-- a line has a number of 32 bits, and keeps to itself
pub record IsPlainLine (line : Line) : Type 0 where
  pub few : line.number < 2 ^ 32
  pub work : IsPlainWork line.work

abbrev line_of_work : ℕ → Option ℕ → Work → Line
line_of_work n gate work = record { number = n; gate = gate; work = work }

abbrev with_form : Bootstrap → ℕ → List Line → ℕ → Option (List ℕ) → Form → Result Line Cause
with_form boot callers before n word f = gate_of n word >>= λ gate. work_of boot callers before f >>= λ work. Ok (line_of_work n gate work)

form_plain : (boot : Bootstrap) (callers : ℕ) (before : List Line) (n : ℕ) (word : Option (List ℕ)) (f : Form) → n < 2 ^ 32 → Gives IsPlainLine (with_form boot callers before n word f)
form_plain boot callers before n word f few =
    past IsPlainLine (gate_of n word) (λ gate. work_of boot callers before f >>= λ work. Ok (line_of_work n gate work))
    (λ gate. known IsPlainWork IsPlainLine (work_of boot callers before f) (λ work. Ok (line_of_work n gate work)) (work_plain boot callers before f)
    (λ work h. given IsPlainLine (line_of_work n gate work) record { few = few; work = h }))

words_plain : (boot : Bootstrap) (callers : ℕ) (before : List Line) (n : ℕ) (words : Option (List ℕ) × List (List ℕ)) → n < 2 ^ 32 → Gives IsPlainLine (line_with boot callers before n words)
unfolding line_with
words_plain boot callers before n words few =
    past IsPlainLine (ok_or (form_of words.1) cause.Word) (with_form boot callers before n words.0) (λ f. form_plain boot callers before n words.0 f few)

few_lines : (b : Bool) (n : ℕ) → ltb 200000 n || b ≡ false → n < 2 ^ 32
few_lines b n h = let small : ltb 200000 n ≡ false = grind (arith, h) in grind (arith, nat_tests, small)

counted_plain : (many : Bool) (boot : Bootstrap) (callers : ℕ) (before : List Line) (n : ℕ) (line : List ℕ) → (many ≡ false → n < 2 ^ 32)
    → Gives IsPlainLine (check (not many) cause.Lines >>= λ _. check (is_utf8 line) cause.Text >>= λ _. line_with boot callers before n (gate_in (words_of line)))
counted_plain true boot callers before n line few = refused IsPlainLine cause.Lines
counted_plain false boot callers before n line few =
    past IsPlainLine (check (is_utf8 line) cause.Text) (λ _. line_with boot callers before n (gate_in (words_of line)))
    (λ _. words_plain boot callers before n (gate_in (words_of line)) (few refl))

-- line n, whatever stands before it
pub line_plain : (boot : Bootstrap) (callers : ℕ) (before : List Line) (n : ℕ) (line : List ℕ) → Gives IsPlainLine (line_of boot callers before n line)
unfolding line_of
line_plain boot callers before n line = counted_plain (is_too_many before n line) boot callers before n line (λ h. few_lines _ n h)
