-- The session that bytes spell, or the first fault (this project's own format).
use Rattle.std.specs.Prelude.{◌≡◌, ℕ, ◌+◌, List, [], ◌∷◌, length, reverse, Bool, nat_lt, if◌then◌else◌, codes, Result, Ok, Err}
use Rattle.std.specs.Option.{ok_or}
use Rattle.std.specs.Result.{result_ok}
use Rattle.std.specs.Str.{bytes_eq, is_utf8}
use Rattle.xds_bootstrap.specs.Document.{read_bootstrap}
use Rattle.xds_bootstrap.specs.declared.bootstrap.Bootstrap.{Bootstrap}
use Rattle.xds_name.specs.Targets.{listener_of}
use Rattle.xds_name.specs.NameTexts.{after}
use Rattle.xds_name.specs.declared.target.Target.{Target}
use Rattle.session_lines.specs.Lines.{lines_of, words_of, second_of}
use Rattle.session_lines.specs.Before.{entries}
use Rattle.session_lines.specs.WordValues.{number_within}
use Rattle.session_lines.specs.Works.{line_of}
use Rattle.session_lines.specs.declared.cause.Cause.{Cause}
use Rattle.session_lines.specs.declared.cause.Cause.TheVariants as cause
use Rattle.session_lines.specs.declared.cause.SessionFault.{SessionFault}
use Rattle.session_lines.specs.declared.cause.SessionFault.TheVariants as fault
use Rattle.session_lines.specs.declared.session_head.Head.{Head}
use Rattle.session_lines.specs.declared.session.Line.{Line}
use Rattle.session_lines.specs.declared.session.Session.{Session}

-- where bytes are refused: the line, and the cause
pub record Refusal : Type 0 where
  pub line : ℕ
  pub cause : Cause

infixl 10 ◌>>=◌
abbrev pub ◌>>=◌ : {A B : Type 0} → Result A Refusal → (A → Result B Refusal) → Result B Refusal
(Ok x) >>= f = f x
(Err e) >>= f = Err e

abbrev pub refusal : ℕ → Cause → Refusal
refusal line cause = record { line = line; cause = cause }

-- a test of a line, which has to hold
abbrev pub check_at : ℕ → Bool → Cause → Result (Unit {0}) Refusal
check_at n holds cause = if holds then Ok tt else Err (refusal n cause)

-- ---- lines 1 to 4

-- the next line and those after it
abbrev pub next_of : List (List ℕ) → Result (List ℕ × List (List ℕ)) Refusal
next_of [] = Err (refusal 0 cause.Short)
next_of (line ∷ lines) = Ok (line, lines)

-- `xds-session 1`
unfoldable pub header_of : List ℕ → Result (Unit {0}) Refusal
header_of line = do
  _ ← check_at 1 (is_utf8 line) cause.Text
  check_at 1 (bytes_eq line (codes "xds-session 1")) cause.Header

-- `boot ` and a bootstrap
unfoldable pub boot_of : List ℕ → Result Bootstrap Refusal
boot_of line = do
  _ ← check_at 2 (is_utf8 line) cause.Text
  document ← ok_or (after (codes "boot ") line) (refusal 2 cause.Boot)
  ok_or (result_ok (read_bootstrap document)) (refusal 2 cause.Boot)

-- `target` and a word, which names a listener
unfoldable pub target_of : Bootstrap → List ℕ → Result Target Refusal
target_of boot line = do
  _ ← check_at 3 (is_utf8 line) cause.Text
  word ← ok_or (second_of (codes "target") (words_of line)) (refusal 3 cause.Target)
  ok_or (result_ok (listener_of boot.authorities word)) (refusal 3 cause.Target)

-- `callers` and a number of 1 to 16
unfoldable pub callers_of : List ℕ → Result ℕ Refusal
callers_of line = do
  _ ← check_at 4 (is_utf8 line) cause.Text
  word ← ok_or (second_of (codes "callers") (words_of line)) (refusal 4 cause.Callers)
  ok_or (number_within 1 16 word) (refusal 4 cause.Callers)

-- what lines 1 to 4 say, and the lines after them
unfoldable pub head_of : List (List ℕ) → Result (Head × List (List ℕ)) Refusal
head_of lines = do
  first ← next_of lines
  _ ← header_of first.0
  second ← next_of first.1
  boot ← boot_of second.0
  third ← next_of second.1
  target ← target_of boot third.0
  fourth ← next_of third.1
  callers ← callers_of fourth.0
  Ok (record { boot = boot; target = target; callers = callers }, fourth.1)

-- ---- the lines from line 5 on

-- what line n says, or its refusal
abbrev pub at_line : {A : Type 0} → ℕ → Result A Cause → Result A Refusal
at_line n (Ok x) = Ok x
at_line n (Err cause) = Err (refusal n cause)

-- the lines before and one more, the newest first
abbrev pub onto : List Line → Result Line Refusal → Result (List Line) Refusal
onto before (Ok line) = Ok (line ∷ before)
onto before (Err e) = Err e

abbrev pub with_line : Head → List Line → ℕ → List ℕ → Result (List Line) Refusal
with_line head before n line = onto before (at_line n (line_of head.boot head.callers before n line))

-- the lines before and all from line n on, the newest first
unfoldable pub lines_from : Head → List Line → ℕ → List (List ℕ) → Result (List Line) Refusal
lines_from head before n [] = Ok before
lines_from head before n (line ∷ lines) = with_line head before n line >>= λ now. lines_from head now (n + 1) lines

-- ---- the session

-- the entries are at most 1,048,576, the last sweep's among them
abbrev pub session_with : Head → List Line → Result Session Refusal
session_with head lines =
    if nat_lt 1048576 (entries lines + 1) then Err (refusal 0 cause.Entries)
    else Ok record { boot = head.boot; target = head.target; callers = head.callers; lines = reverse lines }

-- the session of bytes that may be so many
unfoldable pub session_within : ℕ → List ℕ → Result Session Refusal
session_within most bytes =
    if nat_lt most (length bytes) then Err (refusal 0 cause.Size)
    else head_of (lines_of bytes) >>= λ head. lines_from head.0 [] 5 head.1 >>= λ lines. session_with head.0 lines

-- the session that the bytes spell
unfoldable pub session_of : List ℕ → Result Session Refusal
session_of bytes = session_within 67108864 bytes

-- ---- what is read, and its faults

-- there was no memory, or the fault is the first refusal
abbrev pub Fails : {A : Type 0} → SessionFault → Result A Refusal → Type 0
Fails fault.Memory reading = Unit {0}
Fails (fault.Script line cause) reading = reading ≡ Err record { line = line; cause = cause }

-- what was read is what the bytes spell, or the fault is theirs
abbrev pub Gives : {X A : Type 0} → (X → A) → Result X SessionFault → Result A Refusal → Type 0
Gives view (Ok x) reading = reading ≡ Ok (view x)
Gives view (Err e) reading = Fails e reading
