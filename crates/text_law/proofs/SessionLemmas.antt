-- A session that was read has at most sixteen callers.
use Rattle.std.proofs.Common.{◌≡◌, ℕ, ◌+◌, ◌≤◌, List, [], ◌∷◌, length, reverse, codes, Bool, true, false, leb, ltb, cond, Option, Some, None, option_and_then, Result, Ok, Err, refl, ap, arith, leb-true, subst}
use Rattle.std.specs.Option.{ok_or}
use Rattle.session_lines.specs.Session.{Refusal, ◌>>=◌, boot_of, callers_of, check_at, head_of, header_of, lines_from, next_of, refusal, session_of, session_with, session_within, target_of}
use Rattle.session_lines.specs.Before.{entries}
use Rattle.session_lines.specs.Lines.{lines_of, second_of, words_of}
use Rattle.xc_base.specs.Numbers.{number_of}
use Rattle.session_lines.specs.WordValues.{at_most, number_up_to, number_within}
use Rattle.std.specs.Str.{is_utf8}
use Rattle.xds_bootstrap.specs.declared.bootstrap.Bootstrap.{Bootstrap}
use Rattle.xds_name.specs.declared.target.Target.{Target}
use Rattle.session_lines.specs.declared.cause.Cause.TheVariants as cause
use Rattle.session_lines.specs.declared.session_head.Head.{Head}
use Rattle.session_lines.specs.declared.session.Line.{Line}
use Rattle.session_lines.specs.declared.session.Session.{Session}

-- what a step gave
bound : {A B : Type 0} (r : Result A Refusal) (f : A → Result B Refusal) (y : B) → (r >>= f) ≡ Ok y → (x : A) × ((r ≡ Ok x) × (f x ≡ Ok y))
bound (Ok x) f y is = (x, (refl, is))
bound (Err e) f y is = absurd (cc is)

some_of : (found : Option ℕ) (n : ℕ) (e : Refusal) → ok_or found e ≡ Ok n → found ≡ Some n
some_of None n e is = absurd (cc is)
some_of (Some m) n e is = cc is

abbrev callers_in : Result (Head × List (List ℕ)) Refusal → ℕ
callers_in (Ok x) = x.0.callers
callers_in (Err e) = 0

abbrev session_callers : Result Session Refusal → ℕ
session_callers (Ok x) = x.callers
session_callers (Err e) = 0

few_by : (b : Bool) (n m : ℕ) → leb n 16 ≡ b → cond b (Some n) None ≡ Some m → m ≤ 16
few_by true n m is h = let same : n ≡ m = cc h in grind (arith, leb-true n 16 is, same)
few_by false n m is h = absurd (cc h)

few_at : (found : Option ℕ) (m : ℕ) → at_most 16 found ≡ Some m → m ≤ 16
few_at None m is = absurd (cc is)
few_at (Some n) m is = few_by (leb n 16) n m refl is

within_by : (b : Bool) (n m : ℕ) → cond b (Some n) None ≡ Some m → n ≡ m
within_by true n m is = cc is
within_by false n m is = absurd (cc is)

within_at : (found : Option ℕ) (m : ℕ) → option_and_then (λ n. cond (leb 1 n) (Some n) None) found ≡ Some m → found ≡ Some m
within_at None m is = absurd (cc is)
within_at (Some n) m is = ap Some (within_by (leb 1 n) n m is)

few_within : (word : List ℕ) (m : ℕ) → number_within 1 16 word ≡ Some m → m ≤ 16
unfolding number_within number_up_to
few_within word m is = few_at (number_of word) m (within_at (number_up_to 16 word) m is)

-- the steps of a reading, as it writes them
abbrev callers_steps : List ℕ → Result ℕ Refusal
callers_steps line =
    check_at 4 (is_utf8 line) cause.Text >>= λ _. ok_or (second_of (codes "callers") (words_of line)) (refusal 4 cause.Callers) >>= λ word. ok_or (number_within 1 16 word) (refusal 4 cause.Callers)

few_callers : (line : List ℕ) (n : ℕ) → callers_of line ≡ Ok n → n ≤ 16
unfolding callers_of
few_callers line n is =
    let a = bound (check_at 4 (is_utf8 line) cause.Text) (λ _. ok_or (second_of (codes "callers") (words_of line)) (refusal 4 cause.Callers) >>= λ word. ok_or (number_within 1 16 word) (refusal 4 cause.Callers)) n is in
    let b = bound (ok_or (second_of (codes "callers") (words_of line)) (refusal 4 cause.Callers)) (λ word. ok_or (number_within 1 16 word) (refusal 4 cause.Callers)) n a.1.1 in
    few_within b.0 n (some_of (number_within 1 16 b.0) n (refusal 4 cause.Callers) b.1.1)

-- what is read behind the lines before
abbrev fourth_steps : Bootstrap → Target → List (List ℕ) → Result (Head × List (List ℕ)) Refusal
fourth_steps boot target lines =
    next_of lines >>= λ fourth. callers_of fourth.0 >>= λ callers. Ok (record { boot = boot; target = target; callers = callers }, fourth.1)

abbrev third_steps : Bootstrap → List (List ℕ) → Result (Head × List (List ℕ)) Refusal
third_steps boot lines = next_of lines >>= λ third. target_of boot third.0 >>= λ target. fourth_steps boot target third.1

abbrev second_steps : List (List ℕ) → Result (Head × List (List ℕ)) Refusal
second_steps lines = next_of lines >>= λ second. boot_of second.0 >>= λ boot. third_steps boot second.1

few_fourth : (boot : Bootstrap) (target : Target) (lines : List (List ℕ)) (x : Head × List (List ℕ)) → fourth_steps boot target lines ≡ Ok x → x.0.callers ≤ 16
few_fourth boot target [] x is = absurd (cc is)
few_fourth boot target (line ∷ lines) x is =
    let a = bound (callers_of line) (λ callers. Ok (record { boot = boot; target = target; callers = callers }, lines)) x is in
    let same : a.0 ≡ x.0.callers = ap (λ (z : Result (Head × List (List ℕ)) Refusal). callers_in z) a.1.1 in
    subst (λ (n : ℕ). n ≤ 16) same (few_callers line a.0 a.1.0)

few_third : (boot : Bootstrap) (lines : List (List ℕ)) (x : Head × List (List ℕ)) → third_steps boot lines ≡ Ok x → x.0.callers ≤ 16
few_third boot [] x is = absurd (cc is)
few_third boot (line ∷ lines) x is =
    let a = bound (target_of boot line) (λ target. fourth_steps boot target lines) x is in
    few_fourth boot a.0 lines x a.1.1

few_second : (lines : List (List ℕ)) (x : Head × List (List ℕ)) → second_steps lines ≡ Ok x → x.0.callers ≤ 16
few_second [] x is = absurd (cc is)
few_second (line ∷ lines) x is =
    let a = bound (boot_of line) (λ boot. third_steps boot lines) x is in
    few_third a.0 lines x a.1.1

few_head : (lines : List (List ℕ)) (x : Head × List (List ℕ)) → head_of lines ≡ Ok x → x.0.callers ≤ 16
unfolding head_of
few_head [] x is = absurd (cc is)
few_head (line ∷ lines) x is =
    let a = bound (header_of line) (λ _. second_steps lines) x is in
    few_second lines x a.1.1

few_with : (b : Bool) (head : Head) (lines : List Line) (e : Refusal) (x : Session) → head.callers ≤ 16
    → cond b (Err e) (Ok record { boot = head.boot; target = head.target; callers = head.callers; lines = lines }) ≡ Ok x → x.callers ≤ 16
few_with true head lines e x h is = absurd (cc is)
few_with false head lines e x h is =
    let same : head.callers ≤ 16 = h in
    let callers : head.callers ≡ x.callers = ap (λ (z : Result Session Refusal). session_callers z) is in
    subst (λ (n : ℕ). n ≤ 16) callers h

few_session : (b : Bool) (bytes : List ℕ) (e : Refusal) (x : Session)
    → cond b (Err e) (head_of (lines_of bytes) >>= λ head. lines_from head.0 [] 5 head.1 >>= λ lines. session_with head.0 lines) ≡ Ok x → x.callers ≤ 16
few_session true bytes e x is = absurd (cc is)
few_session false bytes e x is =
    let a = bound (head_of (lines_of bytes)) (λ head. lines_from head.0 [] 5 head.1 >>= λ lines. session_with head.0 lines) x is in
    let b = bound (lines_from a.0.0 [] 5 a.0.1) (λ lines. session_with a.0.0 lines) x a.1.1 in
    few_with (ltb 1048576 (entries b.0 + 1)) a.0.0 (reverse b.0) (refusal 0 cause.Entries) x (few_head (lines_of bytes) a.0 a.1.0) b.1.1

-- at most sixteen callers
pub read_few : (bytes : List ℕ) (session : Session) → session_of bytes ≡ Ok session → session.callers ≤ 16
unfolding session_of session_within
read_few bytes session is = few_session (ltb 67108864 (length bytes)) bytes (refusal 0 cause.Size) session is
