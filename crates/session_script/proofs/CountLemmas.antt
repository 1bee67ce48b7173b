-- The entries of lines, counted one after another.
use Rattle.std.proofs.Common.{◌≡◌, ◌≤◌, ◌<◌, ◌+◌, ℕ, List, [], ◌∷◌, length, take, get_or, reverse, refl, ap, ◌∙◌, arith}
use Rattle.std.proofs.lemmas.List.Sums.{sum_by_more_le, sum_by-cons, sum_by_push}
use Rattle.std.proofs.lemmas.List.{reverse-append}
use Rattle.session_lines.specs.Before.{entries, entries_of}
use Rattle.session_lines.specs.declared.session.Line.{Line}

pub entries_fit : (lines : List Line) (i : ℕ) (line : Line) → i < length lines → line ≡ get_or lines i line → entries (take i lines) + entries_of line.work ≤ entries lines
entries_fit lines i line lt is = let e = sum_by_more_le (λ x. entries_of x.work) lines i line lt in rw (← is) at e

pub entries_reverse : (lines : List Line) → entries (reverse lines) ≡ entries lines
entries_reverse [] = refl
entries_reverse (line ∷ lines) =
    let f : Line → ℕ = λ x. entries_of x.work in
    let push = sum_by_push f (reverse lines) line in
    let cons = sum_by-cons f line lines in
    let rest = entries_reverse lines in
    ap entries (reverse-append (line ∷ []) lines) ∙ omega (arith, push, cons, rest)
