-- The lines from line 5 on, where they are read one after another.
use Rattle.std.proofs.Common.{◌≡◌, ℕ, ◌+◌, List, [], ◌∷◌, ◌++◌, length, reverse, Result, Ok, Err, IfOk, refl, sym, ap, ◌∙◌, arith, append_assoc, append-nil}
use Rattle.std.proofs.lemmas.List.{reverse-append}
use Rattle.xds_bootstrap.specs.Authorities.{AreAuthorities}
use Rattle.xds_bootstrap.specs.declared.bootstrap.Bootstrap.{Bootstrap}
use Rattle.session_lines.specs.Session.{◌>>=◌, Refusal, at_line, lines_from, onto}
use Rattle.session_lines.specs.Works.{line_of}
use Rattle.session_lines.specs.declared.cause.Cause.{Cause}
use Rattle.session_lines.specs.declared.session.Line.{Line}
use Rattle.session_lines.specs.declared.session_head.Head.{Head}
use Rattle.session_shape.specs.SessionShape.{AreLines, IsLine}
use Rattle.session_shape.proofs.LineLemmas.{line_reads}

-- what is read behind these lines: they stay, and the others follow them
pub record AreBehind (boot : Bootstrap) (callers : ℕ) (before all : List Line) : Type 0 where
  pub more : List Line
  pub all_is : reverse all ≡ reverse before ++ more
  pub lines : AreLines boot callers before more

one_behind : (boot : Bootstrap) (callers : ℕ) (before all : List Line) (line : Line) → IsLine boot callers before line → AreBehind boot callers (line ∷ before) all → AreBehind boot callers before all
one_behind boot callers before all line is behind = record {
  more = line ∷ behind.more;
  all_is = behind.all_is ∙ (ap (λ (ls : List Line). ls ++ behind.more) (reverse-append (line ∷ []) before) ∙ append_assoc (reverse before) (line ∷ []) behind.more);
  lines = (is, behind.lines);
}

lines_read_by : (boot : Bootstrap) (callers : ℕ) (before : List Line) (n : ℕ) (r : Result Line Cause) (f : List Line → Result (List Line) Refusal) → IfOk r (IsLine boot callers before)
    → ((line : Line) → IfOk (f (line ∷ before)) (AreBehind boot callers (line ∷ before))) → IfOk (onto before (at_line n r) >>= f) (AreBehind boot callers before)
lines_read_by boot callers before n (Ok line) f is rest = of_rest (f (line ∷ before)) (rest line)
  where
    of_rest : (s : Result (List Line) Refusal) → IfOk s (AreBehind boot callers (line ∷ before)) → IfOk s (AreBehind boot callers before)
    of_rest (Ok all) behind = one_behind boot callers before all line is behind
    of_rest (Err e) behind = tt
lines_read_by boot callers before n (Err e) f is rest = tt

pub lines_read : (head : Head) (before : List Line) (n : ℕ) (texts : List (List ℕ)) → AreAuthorities head.boot.authorities → n ≡ length before + 5
    → IfOk (lines_from head before n texts) (AreBehind head.boot head.callers before)
unfolding lines_from
lines_read head before n [] are is = record { more = []; all_is = sym (append-nil (reverse before)); lines = tt }
lines_read head before n (text ∷ texts) are is =
    lines_read_by head.boot head.callers before n (line_of head.boot head.callers before n text) (λ now. lines_from head now (n + 1) texts)
    (line_reads head.boot head.callers before n text are is)
    (λ line. lines_read head (line ∷ before) (n + 1) texts are (omega (arith, is)))
