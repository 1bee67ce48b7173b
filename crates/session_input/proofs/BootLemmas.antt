-- The bootstrap of a session is that of its line 2.
use Rattle.std.proofs.Common.{◌≡◌, ℕ, ◌+◌, List, [], ◌∷◌, length, codes, Bool, true, false, ltb, cond, Some, option_and_then, Result, Ok, Err, IfOk, refl, sym, subst}
use Rattle.std.specs.Option.{ok_or}
use Rattle.std.specs.Result.{result_ok}
use Rattle.std.specs.Str.{is_utf8}
use Rattle.xds_bootstrap.specs.Document.{read_bootstrap}
use Rattle.xds_bootstrap.specs.declared.bootstrap.Bootstrap.{Bootstrap}
use Rattle.xds_name.specs.NameTexts.{after}
use Rattle.xds_name.specs.declared.target.Target.{Target}
use Rattle.session_lines.specs.Before.{entries}
use Rattle.session_lines.specs.Lines.{lines_of}
use Rattle.session_lines.specs.Session as session
use Rattle.session_lines.specs.Session.{◌>>=◌, Refusal, boot_of, callers_of, check_at, head_of, header_of, lines_from, next_of, refusal, session_of, session_with, session_within}
use Rattle.session_lines.specs.declared.cause.Cause.TheVariants as cause
use Rattle.session_lines.specs.declared.session.Line.{Line}
use Rattle.session_lines.specs.declared.session.Session.{Session}
use Rattle.session_lines.specs.declared.session_head.Head.{Head}
use Rattle.session_input.specs.Inputs.{document_in, second_line}

then_of : {A B : Type 0} (P : B → Type 0) (r : Result A Refusal) (f : A → Result B Refusal) → ((x : A) → r ≡ Ok x → IfOk (f x) P) → IfOk (r >>= f) P
then_of P (Ok x) f h = h x refl
then_of P (Err e) f h = tt

ok_is : {A : Type 0} (P : A → Type 0) (r : Result A Refusal) → IfOk r P → (x : A) → r ≡ Ok x → P x
ok_is P (Ok y) h x is = let same : y ≡ x = cc is in subst P same h
ok_is P (Err e) h x is = absurd (cc is)

-- ---- line 2

found_of : (line document : List ℕ) (boot : Bootstrap) → after (codes "boot ") line ≡ Some document → read_bootstrap document ≡ Ok boot → IfOk (boot_of line) (λ b. b ≡ boot)
unfolding boot_of
found_of line document boot has reads =
    then_of (λ (b : Bootstrap). b ≡ boot) (check_at 2 (is_utf8 line) cause.Text) (λ _. ok_or (after (codes "boot ") line) (refusal 2 cause.Boot) >>= λ d. ok_or (result_ok (read_bootstrap d)) (refusal 2 cause.Boot))
    (λ _ _. rw (has, reads) refl)

-- ---- the head, whose line 2 has this bootstrap

abbrev HasBoot : Bootstrap → Head × List (List ℕ) → Type 0
HasBoot boot found = found.0.boot ≡ boot

abbrev fourth_of : Bootstrap → Target → List (List ℕ) → Result (Head × List (List ℕ)) Refusal
fourth_of boot target lines = next_of lines >>= λ fourth. callers_of fourth.0 >>= λ callers. Ok (record { boot = boot; target = target; callers = callers }, fourth.1)

fourth_keeps : (boot : Bootstrap) (target : Target) (lines : List (List ℕ)) → IfOk (fourth_of boot target lines) (HasBoot boot)
fourth_keeps boot target [] = tt
fourth_keeps boot target (line ∷ lines) =
    then_of (HasBoot boot) (callers_of line) (λ callers. Ok (record { boot = boot; target = target; callers = callers }, lines)) (λ callers _. refl)

abbrev third_of : Bootstrap → List (List ℕ) → Result (Head × List (List ℕ)) Refusal
third_of boot lines = next_of lines >>= λ third. session.target_of boot third.0 >>= λ target. fourth_of boot target third.1

third_keeps : (boot : Bootstrap) (lines : List (List ℕ)) → IfOk (third_of boot lines) (HasBoot boot)
third_keeps boot [] = tt
third_keeps boot (line ∷ lines) = then_of (HasBoot boot) (session.target_of boot line) (λ target. fourth_of boot target lines) (λ target _. fourth_keeps boot target lines)

second_keeps : (line document : List ℕ) (lines : List (List ℕ)) (boot : Bootstrap) → after (codes "boot ") line ≡ Some document → read_bootstrap document ≡ Ok boot → IfOk (boot_of line >>= λ b. third_of b lines) (HasBoot boot)
second_keeps line document lines boot has reads =
    then_of (HasBoot boot) (boot_of line) (λ b. third_of b lines)
    (λ b is. let same : b ≡ boot = ok_is (λ (x : Bootstrap). x ≡ boot) (boot_of line) (found_of line document boot has reads) b is in
    subst (λ (x : Bootstrap). IfOk (third_of b lines) (HasBoot x)) same (third_keeps b lines))

head_keeps : (lines : List (List ℕ)) (document : List ℕ) (boot : Bootstrap) → option_and_then (after (codes "boot ")) (second_line lines) ≡ Some document → read_bootstrap document ≡ Ok boot → IfOk (head_of lines) (HasBoot boot)
unfolding head_of
head_keeps [] document boot has reads = tt
head_keeps (first ∷ []) document boot has reads = absurd (cc has)
head_keeps (first ∷ second ∷ lines) document boot has reads =
    then_of (HasBoot boot) (header_of first) (λ _. boot_of second >>= λ b. third_of b lines) (λ _ _. second_keeps second document lines boot has reads)

-- ---- the session

abbrev OfBoot : Bootstrap → Session → Type 0
OfBoot boot s = s.boot ≡ boot

with_keeps : (head : Head) (lines : List Line) (boot : Bootstrap) (b : Bool) → head.boot ≡ boot → ltb 1048576 (entries lines + 1) ≡ b → IfOk (session_with head lines) (OfBoot boot)
with_keeps head lines boot true is many = rw many tt
with_keeps head lines boot false is many = rw many is

all_keep : (lines : List (List ℕ)) (boot : Bootstrap) → IfOk (head_of lines) (HasBoot boot) → IfOk (head_of lines >>= λ head. lines_from head.0 [] 5 head.1 >>= λ ls. session_with head.0 ls) (OfBoot boot)
all_keep lines boot keeps =
    then_of (OfBoot boot) (head_of lines) (λ head. lines_from head.0 [] 5 head.1 >>= λ ls. session_with head.0 ls)
    (λ head is. then_of (OfBoot boot) (lines_from head.0 [] 5 head.1) (λ ls. session_with head.0 ls)
    (λ ls _. with_keeps head.0 ls boot (ltb 1048576 (entries ls + 1)) (ok_is (HasBoot boot) (head_of lines) keeps head is) refl))

read_by : (b : Bool) (r : Result Session Refusal) (e : Refusal) (boot : Bootstrap) (s : Session) → IfOk r (OfBoot boot) → cond b (Err e) r ≡ Ok s → s.boot ≡ boot
read_by true r e boot s keeps is = absurd (cc is)
read_by false r e boot s keeps is = ok_is (OfBoot boot) r keeps s is

pub boot_is : (bytes document : List ℕ) (boot : Bootstrap) (s : Session) → document_in bytes ≡ Some document → read_bootstrap document ≡ Ok boot → session_of bytes ≡ Ok s → boot ≡ s.boot
unfolding session_of session_within
boot_is bytes document boot s has reads is =
    sym (read_by (ltb 67108864 (length bytes)) (head_of (lines_of bytes) >>= λ head. lines_from head.0 [] 5 head.1 >>= λ ls. session_with head.0 ls) (refusal 0 cause.Size) boot s
    (all_keep (lines_of bytes) boot (head_keeps (lines_of bytes) document boot has reads)) is)
