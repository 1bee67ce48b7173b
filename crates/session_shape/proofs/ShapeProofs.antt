-- The law.
use Rattle.std.proofs.Common.{◌≡◌, ◌<◌, ℕ, ◌+◌, ◌≤◌, List, [], ◌∷◌, length, reverse, Bool, true, false, ltb, cond, Result, Ok, Err, IfOk, refl, sym, ap, ◌∙◌, arith, subst}
use Rattle.std.proofs.lemmas.Bool.Decides.{nat_tests}
use Rattle.std.proofs.lemmas.List.{reverse-append}
use Rattle.std.proofs.lemmas.List.Sums.{sum_by-cons, sum_by_push}
use Rattle.xds_bootstrap.specs.Authorities.{AreAuthorities}
use Rattle.xds_name.proofs.StayLemmas.{canonical_stays, home_stays}
use Rattle.session_lines.specs.Before.{entries, entries_of}
use Rattle.session_lines.specs.Lines.{lines_of}
use Rattle.session_lines.specs.Session.{◌>>=◌, Refusal, head_of, lines_from, refusal, session_of, session_with, session_within}
use Rattle.session_lines.specs.declared.cause.Cause.TheVariants as cause
use Rattle.session_lines.specs.declared.session.Line.{Line}
use Rattle.session_lines.specs.declared.session.Session.{Session}
use Rattle.session_lines.specs.declared.session_head.Head.{Head}
use Rattle.session_shape.specs.SessionShape.{AreLines, IsWellFormed, ReadIsWellFormed}
use Rattle.session_shape.proofs.HeadLemmas.{IsHead, IsHeadOf, head_reads, then_of}
use Rattle.session_shape.proofs.OrderedLines.{AreBehind, lines_read}

entries_reverse : (lines : List Line) → entries (reverse lines) ≡ entries lines
entries_reverse [] = refl
entries_reverse (line ∷ lines) =
    let f : Line → ℕ = λ x. entries_of x.work in
    let push = sum_by_push f (reverse lines) line in
    let cons = sum_by-cons f line lines in
    let rest = entries_reverse lines in
    ap entries (reverse-append (line ∷ []) lines) ∙ omega (arith, push, cons, rest)

-- what the session says of its head and its lines
formed_of : (head : Head) (all : List Line) → IsHead head → AreBehind head.boot head.callers [] all → entries all + 1 ≤ 1048576 → AreAuthorities head.boot.authorities
    → IsWellFormed record { boot = head.boot; target = head.target; callers = head.callers; lines = reverse all }
formed_of head all is behind few are = record {
  authorities = are;
  target = is.target;
  least = is.callers.least;
  most = is.callers.most;
  lines = subst (AreLines head.boot head.callers []) (sym behind.all_is) behind.lines;
  few = (let same = entries_reverse all in omega (arith, same, few));
}

abbrev session_from : Head → List Line → Session
session_from head all = record { boot = head.boot; target = head.target; callers = head.callers; lines = reverse all }

formed_with : (head : Head) (all : List Line) (session : Session) (b : Bool) → IsHead head → (AreAuthorities head.boot.authorities → AreBehind head.boot head.callers [] all)
    → ltb 1048576 (entries all + 1) ≡ b → cond b (Err (refusal 0 cause.Entries)) (Ok (session_from head all)) ≡ Ok session → AreAuthorities session.boot.authorities → IsWellFormed session
formed_with head all session true is behind few made are = absurd (cc made)
formed_with head all session false is behind few made are =
    let same : session_from head all ≡ session = cc made in
    let own : AreAuthorities head.boot.authorities = subst (λ (s : Session). AreAuthorities s.boot.authorities) (sym same) are in
    let least : entries all + 1 ≤ 1048576 = grind (arith, nat_tests, few) in
    subst IsWellFormed same (formed_of head all is (behind own) least own)

-- a session that is read, and its authorities are those of a bootstrap
abbrev IsFormed : Session → Type 0
IsFormed session = AreAuthorities session.boot.authorities → IsWellFormed session

ok_is : {A : Type 0} (P : A → Type 0) (r : Result A Refusal) → IfOk r P → (x : A) → r ≡ Ok x → P x
ok_is P (Ok y) h x is = let same : y ≡ x = cc is in subst P same h
ok_is P (Err e) h x is = absurd (cc is)

abbrev behind_head : Head × List (List ℕ) → Result Session Refusal
behind_head head = lines_from head.0 [] 5 head.1 >>= λ lines. session_with head.0 lines

behind_reads : (head : Head × List (List ℕ)) → IsHead head.0 → IfOk (behind_head head) IsFormed
behind_reads head is =
    then_of IsFormed (lines_from head.0 [] 5 head.1) (λ lines. session_with head.0 lines)
    (λ lines found. formed_in lines (session_with head.0 lines) refl found)
  where
    formed_in : (lines : List Line) (r : Result Session Refusal) → session_with head.0 lines ≡ r → lines_from head.0 [] 5 head.1 ≡ Ok lines → IfOk r IsFormed
    formed_in lines (Ok session) made found = λ are.
        formed_with head.0 lines session (ltb 1048576 (entries lines + 1)) is
        (λ own. ok_is (AreBehind head.0.boot head.0.callers []) (lines_from head.0 [] 5 head.1) (lines_read head.0 [] 5 head.1 own refl) lines found) refl made are
    formed_in lines (Err e) made found = tt

all_read : (lines : List (List ℕ)) → IfOk (head_of lines >>= λ head. behind_head head) IsFormed
all_read lines =
    then_of IsFormed (head_of lines) (λ head. behind_head head)
    (λ head found. behind_reads head (ok_is IsHeadOf (head_of lines) (head_reads (record { name = canonical_stays; home = home_stays }) lines) head found))

read_by : (b : Bool) (lines : List (List ℕ)) (e : Refusal) (session : Session) → cond b (Err e) (head_of lines >>= λ head. behind_head head) ≡ Ok session → IsFormed session
read_by true lines e session is = absurd (cc is)
read_by false lines e session is = ok_is IsFormed (head_of lines >>= λ head. behind_head head) (all_read lines) session is

pub read_is_well_formed : ReadIsWellFormed
unfolding session_of session_within
read_is_well_formed bytes session is are = read_by (ltb 67108864 (length bytes)) (lines_of bytes) (refusal 0 cause.Size) session is are
