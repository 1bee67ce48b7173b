-- The lines of a session by their places.
use Rattle.std.proofs.Common.{◌≡◌, ◌<◌, ◌≤◌, ℕ, zero, suc, ◌+◌, List, [], ◌∷◌, ◌++◌, length, take, drop, reverse, get_or, append_assoc, append-nil, Bool, true, false, cond, Option, Some, None, option_and_then, refl, sym, ap, ◌∙◌, subst, arith, eq-eqb}
use Rattle.std.proofs.lemmas.Bool.{cond-true, cond-false}
use Rattle.std.specs.Prelude.{◌==◌}
use Rattle.std.specs.List.{find, slice_get}
use Rattle.std.proofs.lemmas.Bool.Decides.{nat_tests}
use Rattle.std.proofs.lemmas.List.{drop_more, reverse-append, take_more}
use Rattle.std.proofs.lemmas.Option.{get_or_from_slice_get, slice_get_within}
use Rattle.xds_bootstrap.specs.declared.bootstrap.Bootstrap.{Bootstrap}
use Rattle.session_lines.specs.declared.session.Line.{Line}
use Rattle.legal_plan.specs.legal_history.Legal.{gate_of}
use Rattle.session_shape.specs.SessionShape.{AreLines, IsLine}

pub drop_at : {X : Type 0} (xs : List X) (i : ℕ) (x : X) → slice_get xs i ≡ Some x → drop i xs ≡ x ∷ drop (i + 1) xs
drop_at xs i x is = drop_more xs i x (slice_get_within xs i x is) ∙ ap (λ y. y ∷ drop (i + 1) xs) (get_or_from_slice_get xs i x x is)

-- the lines before one more
pub lines_more : (lines : List Line) (i : ℕ) (line : Line) → slice_get lines i ≡ Some line → reverse (take (i + 1) lines) ≡ line ∷ reverse (take i lines)
lines_more lines i line is =
    let lt = slice_get_within lines i line is in
    rw (take_more lines i line lt, get_or_from_slice_get lines i line line is) (reverse-append (take i lines) (line ∷ []))

-- a line of a session, behind as many lines as its place says
pub record IsPlaced (boot : Bootstrap) (callers place : ℕ) (line : Line) : Type 0 where
  pub past : List Line
  pub many : length past ≡ place
  pub is : IsLine boot callers past line

-- a line behind all lines before its place
behind_from : (boot : Bootstrap) (callers : ℕ) (before lines : List Line) (i : ℕ) (line : Line) → AreLines boot callers before lines → slice_get lines i ≡ Some line
    → IsLine boot callers (reverse (take i lines) ++ before) line
behind_from boot callers before [] i line are is = absurd (cc is)
behind_from boot callers before (l ∷ ls) zero line are is = let same : l ≡ line = cc is in subst (IsLine boot callers before) same are.0
behind_from boot callers before (l ∷ ls) (suc i) line are is =
    let same : reverse (take (suc i) (l ∷ ls)) ++ before ≡ reverse (take i ls) ++ l ∷ before =
    ap (λ (xs : List Line). xs ++ before) (reverse-append (l ∷ []) (take i ls)) ∙ append_assoc (reverse (take i ls)) (l ∷ []) before in
    subst (λ (xs : List Line). IsLine boot callers xs line) (sym same) (behind_from boot callers (l ∷ before) ls i line are.1 is)

pub line_behind : (boot : Bootstrap) (callers : ℕ) (lines : List Line) (i : ℕ) (line : Line) → AreLines boot callers [] lines → slice_get lines i ≡ Some line → IsLine boot callers (reverse (take i lines)) line
line_behind boot callers lines i line are is =
    subst (λ (xs : List Line). IsLine boot callers xs line) (append-nil (reverse (take i lines))) (behind_from boot callers [] lines i line are is)

placed_from : (boot : Bootstrap) (callers : ℕ) (before lines : List Line) (i : ℕ) (line : Line) → AreLines boot callers before lines → slice_get lines i ≡ Some line
    → IsPlaced boot callers (length before + i) line
placed_from boot callers before [] i line are is = absurd (cc is)
placed_from boot callers before (l ∷ ls) zero line are is =
    let same : l ≡ line = cc is in
    record { past = before; many = omega arith; is = subst (IsLine boot callers before) same are.0 }
placed_from boot callers before (l ∷ ls) (suc i) line are is =
    let more : length (l ∷ before) + i ≡ length before + suc i = omega arith in
    subst (λ (n : ℕ). IsPlaced boot callers n line) more (placed_from boot callers (l ∷ before) ls i line are.1 is)

pub line_at : (boot : Bootstrap) (callers : ℕ) (lines : List Line) (i : ℕ) (line : Line) → AreLines boot callers [] lines → slice_get lines i ≡ Some line → IsPlaced boot callers i line
line_at boot callers lines i line are is =
    let same : length {A = Line} [] + i ≡ i = omega arith in
    subst (λ (n : ℕ). IsPlaced boot callers n line) same (placed_from boot callers [] lines i line are is)

pub number_at : (boot : Bootstrap) (callers i : ℕ) (line : Line) → IsPlaced boot callers i line → line.number ≡ i + 5
number_at boot callers i line placed = placed.is.number_is ∙ ap (λ (n : ℕ). n + 5) placed.many

-- ---- a line is found by its number

find_from : (boot : Bootstrap) (callers : ℕ) (before lines : List Line) (i : ℕ) (line : Line) → AreLines boot callers before lines → slice_get lines i ≡ Some line
    → find (λ l. l.number == line.number) lines ≡ Some line
find_from boot callers before [] i line are is = absurd (cc is)
find_from boot callers before (l ∷ ls) zero line are is =
    let same : l ≡ line = cc is in
    cond-true (l.number == line.number) (Some l) (find (λ x. x.number == line.number) ls) (eq-eqb l.number line.number (ap (λ (x : Line). x.number) same)) ∙ ap Some same
find_from boot callers before (l ∷ ls) (suc i) line are is =
    let here : l.number ≡ length before + 5 = are.0.number_is in
    let there = placed_from boot callers (l ∷ before) ls i line are.1 is in
    let number : line.number ≡ length (l ∷ before) + i + 5 = number_at boot callers (length (l ∷ before) + i) line there in
    let other : (l.number == line.number) ≡ false = grind (arith, nat_tests, here, number) in
    cond-false (l.number == line.number) (Some l) (find (λ x. x.number == line.number) ls) other ∙ find_from boot callers (l ∷ before) ls i line are.1 is

pub gate_at : (boot : Bootstrap) (callers : ℕ) (lines : List Line) (i : ℕ) (line : Line) → AreLines boot callers [] lines → slice_get lines i ≡ Some line → gate_of lines line.number ≡ line.gate
gate_at boot callers lines i line are is = ap (λ (found : Option Line). option_and_then (λ (l : Line). l.gate) found) (find_from boot callers [] lines i line are is)

-- no line has the number of the last sweep
none_from : (boot : Bootstrap) (callers : ℕ) (before lines : List Line) → AreLines boot callers before lines → find (λ l. l.number == 0) lines ≡ None
none_from boot callers before [] are = refl
none_from boot callers before (l ∷ ls) are =
    let here : l.number ≡ length before + 5 = are.0.number_is in
    let other : (l.number == 0) ≡ false = grind (arith, nat_tests, here) in
    cond-false (l.number == 0) (Some l) (find (λ x. x.number == 0) ls) other ∙ none_from boot callers (l ∷ before) ls are.1

pub no_gate : (boot : Bootstrap) (callers : ℕ) (lines : List Line) → AreLines boot callers [] lines → gate_of lines 0 ≡ None
no_gate boot callers lines are = ap (λ (found : Option Line). option_and_then (λ (l : Line). l.gate) found) (none_from boot callers [] lines are)
