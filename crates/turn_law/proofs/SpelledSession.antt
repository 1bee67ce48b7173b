-- The lines of a session that bytes spell.
use Rattle.std.proofs.Common.{◌≡◌, ℕ, ◌+◌, List, [], ◌∷◌, All, length, reverse, Bool, true, false, cond, ltb, Result, Ok, Err, refl, sym, ap, subst}
use Rattle.std.proofs.lemmas.List.{reverse-append}
use Rattle.std.proofs.lemmas.List.Elements.{All-append, All-cons, All-head, All-nil, All-tail}
use Rattle.session_lines.specs.Before.{entries}
use Rattle.session_lines.specs.Lines.{lines_of}
use Rattle.session_lines.specs.Session.{Refusal, ◌>>=◌, at_line, head_of, lines_from, onto, refusal, session_of, session_with, session_within, with_line}
use Rattle.session_lines.specs.Works.{line_of}
use Rattle.session_lines.specs.declared.cause.Cause.{Cause}
use Rattle.session_lines.specs.declared.cause.Cause.TheVariants as cause
use Rattle.session_lines.specs.declared.session_head.Head.{Head}
use Rattle.session_lines.specs.declared.session.Line.{Line}
use Rattle.session_lines.specs.declared.session.Session.{Session}
use Rattle.turn_law.proofs.SpelledLines.{Gives, IsPlainLine, line_plain}

more_plain : (before : List Line) (n : ℕ) (r : Result Line Cause) (now : List Line) → Gives IsPlainLine r → All IsPlainLine before → onto before (at_line n r) ≡ Ok now → All IsPlainLine now
more_plain before n (Ok line) now h are e =
    let same : line ∷ before ≡ now = cc e in
    subst (All IsPlainLine) same (All-cons IsPlainLine line before (h.says line refl) are)
more_plain before n (Err c) now h are e = absurd (cc e)

-- what a step gave
bound : {A B : Type 0} (r : Result A Refusal) (f : A → Result B Refusal) (y : B) → (r >>= f) ≡ Ok y → (x : A) × ((r ≡ Ok x) × (f x ≡ Ok y))
bound (Ok x) f y is = (x, (refl, is))
bound (Err e) f y is = absurd (cc is)

lines_plain : (head : Head) (lines : List (List ℕ)) (before : List Line) (n : ℕ) (all : List Line) → All IsPlainLine before → lines_from head before n lines ≡ Ok all → All IsPlainLine all
unfolding lines_from
lines_plain head [] before n all are e = let same : before ≡ all = cc e in subst (All IsPlainLine) same are
lines_plain head (line ∷ lines) before n all are e =
    let a = bound (with_line head before n line) (λ now. lines_from head now (n + 1) lines) all e in
    lines_plain head lines a.0 (n + 1) all (more_plain before n (line_of head.boot head.callers before n line) a.0 (line_plain head.boot head.callers before n line) are a.1.0) a.1.1

pub all_reverse : {X : Type 0} (P : X → Type 0) (xs : List X) → All P xs → All P (reverse xs)
all_reverse P [] h = All-nil P
all_reverse P (x ∷ xs) h =
    subst (All P) (sym (reverse-append (x ∷ []) xs)) (All-append P (reverse xs) (x ∷ []) (all_reverse P xs (All-tail P x xs h)) (All-cons P x [] (All-head P x xs h) (All-nil P)))

abbrev lines_in : Result Session Refusal → List Line
lines_in (Ok x) = x.lines
lines_in (Err e) = []

with_plain : (b : Bool) (head : Head) (lines : List Line) (e : Refusal) (x : Session) → All IsPlainLine lines
    → cond b (Err e) (Ok record { boot = head.boot; target = head.target; callers = head.callers; lines = reverse lines }) ≡ Ok x → All IsPlainLine x.lines
with_plain true head lines e x are is = absurd (cc is)
with_plain false head lines e x are is =
    let same : reverse lines ≡ x.lines = ap lines_in is in
    subst (All IsPlainLine) same (all_reverse IsPlainLine lines are)

session_plain : (b : Bool) (bytes : List ℕ) (e : Refusal) (x : Session)
    → cond b (Err e) (head_of (lines_of bytes) >>= λ head. lines_from head.0 [] 5 head.1 >>= λ lines. session_with head.0 lines) ≡ Ok x → All IsPlainLine x.lines
session_plain true bytes e x is = absurd (cc is)
session_plain false bytes e x is =
    let a = bound (head_of (lines_of bytes)) (λ head. lines_from head.0 [] 5 head.1 >>= λ lines. session_with head.0 lines) x is in
    let b = bound (lines_from a.0.0 [] 5 a.0.1) (λ lines. session_with a.0.0 lines) x a.1.1 in
    with_plain (ltb 1048576 (entries b.0 + 1)) a.0.0 b.0 (refusal 0 cause.Entries) x (lines_plain a.0.0 a.0.1 [] 5 b.0 (All-nil IsPlainLine) b.1.0) b.1.1

-- the lines of a session that bytes spell
pub spelled_plain : (bytes : List ℕ) (x : Session) → session_of bytes ≡ Ok x → All IsPlainLine x.lines
unfolding session_of session_within
spelled_plain bytes x is = session_plain (ltb 67108864 (length bytes)) bytes (refusal 0 cause.Size) x is
