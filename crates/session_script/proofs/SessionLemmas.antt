-- Lines are read one after another.
use Rattle.std.proofs.Common.{◌≡◌, ℕ, suc, ◌+◌, List, [], ◌∷◌, length, Result, Ok, Err, refl, arith}
use Rattle.session_lines.specs.Session.{Refusal, ◌>>=◌, onto, at_line, Fails, lines_from, with_line}
use Rattle.session_lines.specs.Works.{line_of}
use Rattle.session_lines.specs.Lines.{lines_of}
use Rattle.session_lines.specs.declared.cause.Cause.{Cause}
use Rattle.session_lines.specs.declared.cause.SessionFault.{SessionFault}
use Rattle.session_lines.specs.declared.cause.SessionFault.TheVariants as fault
use Rattle.session_lines.specs.declared.session_head.Head.{Head}
use Rattle.session_lines.specs.declared.session.Line.{Line}

fails_on : {A B : Type 0} (e : SessionFault) (r : Result A Refusal) (f : A → Result B Refusal) → Fails e r → Fails e (r >>= f)
fails_on fault.Memory r f h = tt
fails_on (fault.Script line cause) r f h = rw h refl

-- a line that is refused
pub lines_fail : (e : SessionFault) (head : Head) (before : List Line) (n : ℕ) (line : List ℕ) (lines : List (List ℕ)) → Fails e (with_line head before n line)
    → Fails e (lines_from head before n (line ∷ lines))
unfolding lines_from
lines_fail e head before n line lines h = fails_on e (with_line head before n line) _ h

grown : (n : ℕ) (before now : List Line) (r : Result Line Cause) → onto before (at_line n r) ≡ Ok now → length now ≡ suc (length before)
grown n before now (Ok line) h = let e : now ≡ line ∷ before = cc in rw e refl
grown n before now (Err e) h = cc

-- a line that is read
pub lines_go : (head : Head) (before now : List Line) (line : List ℕ) (lines : List (List ℕ)) → with_line head before (length before + 5) line ≡ Ok now
    → lines_from head before (length before + 5) (line ∷ lines) ≡ lines_from head now (length now + 5) lines
unfolding lines_from
lines_go head before now line lines h =
    let one : length before + 5 + 1 ≡ length now + 5 = omega (arith, grown (length before + 5) before now (line_of head.boot head.callers before (length before + 5) line) h) in
    rw (h, one) refl

pub lines_end : (head : Head) (before : List Line) (n : ℕ) (rest : List ℕ) → rest ≡ [] → lines_from head before n (lines_of rest) ≡ Ok before
unfolding lines_from lines_of
lines_end head before n rest e = rw e refl
