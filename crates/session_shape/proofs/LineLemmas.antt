-- A line from line 5 on, where it is read.
use Rattle.std.proofs.Common.{◌≡◌, ℕ, ◌+◌, ◌≤◌, List, [], ◌∷◌, ◌++◌, length, reverse, not, Option, Some, None, Result, Ok, Err, IfOk, refl, sym, ap, ◌∙◌, arith, append_assoc, append-nil}
use Rattle.std.proofs.lemmas.List.{reverse-append}
use Rattle.std.specs.Option.{ok_or}
use Rattle.std.specs.Str.{is_utf8}
use Rattle.xds_bootstrap.specs.Authorities.{AreAuthorities}
use Rattle.xds_bootstrap.specs.declared.bootstrap.Bootstrap.{Bootstrap}
use Rattle.session_lines.specs.Forms.{Form, form_of, gate_in}
use Rattle.session_lines.specs.Lines.{words_of}
use Rattle.session_lines.specs.Works.{◌>>=◌, check, gate_of, is_too_many, line_of, line_with, work_of}
use Rattle.session_lines.specs.declared.cause.Cause.{Cause}
use Rattle.session_lines.specs.declared.cause.Cause.TheVariants as cause
use Rattle.session_lines.specs.declared.session.Line.{Line}
use Rattle.session_lines.specs.declared.session_head.Head.{Head}
use Rattle.session_shape.specs.SessionShape.{AreLines, IsGate, IsLine, IsWork}
use Rattle.session_shape.proofs.WorkLemmas.{gate_reads, then_of, work_reads}

-- ---- one line

ok_is : {A : Type 0} (P : A → Type 0) (r : Result A Cause) → IfOk r P → (x : A) → r ≡ Ok x → P x
ok_is P (Ok y) h x is = let same : y ≡ x = cc is in rw (← same) h
ok_is P (Err e) h x is = absurd (cc is)

line_reads_with : (boot : Bootstrap) (callers : ℕ) (before : List Line) (n : ℕ) (gate : Option (List ℕ)) (words : List (List ℕ)) → AreAuthorities boot.authorities → n ≡ length before + 5
    → IfOk (line_with boot callers before n (gate, words)) (IsLine boot callers before)
unfolding line_with
line_reads_with boot callers before n gate words are is =
    then_of (IsLine boot callers before) (ok_or (form_of words) cause.Word) (λ form. gate_of n gate >>= λ g. work_of boot callers before form >>= λ w. Ok record { number = n; gate = g; work = w })
    (λ form _. then_of (IsLine boot callers before) (gate_of n gate) (λ g. work_of boot callers before form >>= λ w. Ok record { number = n; gate = g; work = w })
    (λ g gated. then_of (IsLine boot callers before) (work_of boot callers before form) (λ w. Ok record { number = n; gate = g; work = w })
    (λ w worked. record {
      number_is = is;
      gate_is = ok_is (IsGate n) (gate_of n gate) (gate_reads n gate (omega (arith, is))) g gated;
      work_is = ok_is (IsWork boot callers before) (work_of boot callers before form) (work_reads boot callers before form are) w worked;
    })))

pub line_reads : (boot : Bootstrap) (callers : ℕ) (before : List Line) (n : ℕ) (line : List ℕ) → AreAuthorities boot.authorities → n ≡ length before + 5
    → IfOk (line_of boot callers before n line) (IsLine boot callers before)
unfolding line_of
line_reads boot callers before n line are is =
    then_of (IsLine boot callers before) (check (not (is_too_many before n line)) cause.Lines) (λ _. check (is_utf8 line) cause.Text >>= λ _. line_with boot callers before n (gate_in (words_of line)))
    (λ _ _. then_of (IsLine boot callers before) (check (is_utf8 line) cause.Text) (λ _. line_with boot callers before n (gate_in (words_of line)))
    (λ _ _. line_reads_with boot callers before n (gate_in (words_of line)).0 (gate_in (words_of line)).1 are is))
