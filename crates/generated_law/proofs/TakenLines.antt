-- Lines of a text, taken one after another.
use Rattle.std.proofs.Common.{◌≡◌, ℕ, ◌+◌, ◌-◌, ◌<◌, ◌≤◌, ◌^◌, List, [], ◌∷◌, ◌++◌, Bool, true, false, ◌&&◌, ◌||◌, Option, Some, None, Ok, reverse, refl, sym, ap, ◌∙◌, append_assoc, arith}
use Rattle.std.specs.Prelude.{nat_le, nat_lt}
use Rattle.std.specs.Fmt.{decimal}
use Rattle.std.proofs.lemmas.Bool.Decides.{nat_tests}
use Rattle.std.proofs.lemmas.List.{reverse-append}
use Rattle.xc_base.proofs.NumberLemmas.{number_of-decimal}
use Rattle.xds_bootstrap.specs.declared.bootstrap.Bootstrap.{Bootstrap}
use Rattle.session_lines.specs.Before.{driver_lines}
use Rattle.session_lines.specs.Forms.{Form, form_of, gate_in}
use Rattle.session_lines.specs.Lines.{is_driver_line, lines_of}
use Rattle.session_lines.specs.Session.{lines_from}
use Rattle.session_lines.specs.WordValues.{number_up_to, number_within}
use Rattle.session_lines.specs.Works.{gate_of, is_too_many, line_of, line_with, work_of}
use Rattle.session_lines.specs.declared.session.Line.{Line}
use Rattle.session_lines.specs.declared.session.Work.{Work}
use Rattle.session_lines.specs.declared.session_head.Head.{Head}
use Rattle.generated_law.proofs.PlainTexts.{ArePlain, clear_spaced, clear_utf8, is_clear_text, line_then, spaced, words_spaced}

-- ---- numbers

pub in_range : (most n : ℕ) → n ≤ most → nat_le n most ≡ true
in_range most n le = grind (arith, nat_tests, le)

pub up_to : (most n : ℕ) → n ≤ most → n < 2 ^ 64 → number_up_to most (decimal n) ≡ Some n
unfolding number_up_to
up_to most n le lt = rw (number_of-decimal (decimal n) n refl lt, in_range most n le) refl

pub within : (least most n : ℕ) → least ≤ n → n ≤ most → n < 2 ^ 64 → number_within least most (decimal n) ≡ Some n
unfolding number_within
within least most n low high lt = rw (up_to most n high lt, in_range n least low) refl

pub gate_is : (n gate : ℕ) → 5 ≤ gate → gate + 1 ≤ n → gate < 2 ^ 64 → gate_of n (Some (decimal gate)) ≡ Ok (Some gate)
unfolding gate_of
gate_is n gate low high lt = rw (within 5 (n - 1) gate low (omega (arith, high)) lt) refl

pub no_gate : (n : ℕ) → gate_of n None ≡ Ok None
unfolding gate_of
no_gate n = refl

-- ---- one line

few_by : (a b c : Bool) → a ≡ false → b ≡ false → (a || (b && c)) ≡ false
few_by true b c one two = absurd (cc one)
few_by false true c one two = absurd (cc two)
few_by false false c one two = refl

few_lines : (before : List Line) (n : ℕ) (line : List ℕ) → n ≤ 200000 → driver_lines before < 20000 → is_too_many before n line ≡ false
few_lines before n line few driven =
    few_by (nat_lt 200000 n) (nat_le 20000 (driver_lines before)) (is_driver_line line) (grind (arith, nat_tests, few)) (grind (arith, nat_tests, driven))

abbrev pub line_as : ℕ → Option ℕ → Work → Line
line_as n gate work = record { number = n; gate = gate; work = work }

pub line_read : (boot : Bootstrap) (callers : ℕ) (before : List Line) (n : ℕ) (word : List ℕ) (words : List (List ℕ)) (gate_word : Option (List ℕ)) (rest : List (List ℕ)) (form : Form) (gate : Option ℕ) (work : Work)
    → ArePlain (word ∷ words) → gate_in (word ∷ words) ≡ (gate_word, rest) → form_of rest ≡ Some form → gate_of n gate_word ≡ Ok gate → work_of boot callers before form ≡ Ok work
    → n ≤ 200000 → driver_lines before < 20000 → line_of boot callers before n (spaced word words) ≡ Ok (line_as n gate work)
unfolding line_of line_with
line_read boot callers before n word words gate_word rest form gate work plain gated formed opened worked few driven =
    rw (few_lines before n (spaced word words) few driven, clear_utf8 (spaced word words) (clear_spaced word words plain), words_spaced word words plain, gated, formed, opened, worked) refl

-- ---- lines one after another

-- from line n on, the text has these lines, and then line m
abbrev pub Takes : Head → List Line → ℕ → List ℕ → List Line → ℕ → Type 0
Takes head before n text lines m = (rest : List ℕ) → lines_from head before n (lines_of (text ++ rest)) ≡ lines_from head (reverse lines ++ before) m (lines_of rest)

pub line_taken : (head : Head) (before : List Line) (n : ℕ) (text : List ℕ) (line : Line) (m : ℕ) → line_of head.boot head.callers before n text ≡ Ok line → is_clear_text text ≡ true → m ≡ n + 1
    → Takes head before n (text ++ 10 ∷ []) (line ∷ []) m
unfolding lines_from
line_taken head before n text line m read clear next rest =
    ap (λ bytes. lines_from head before n (lines_of bytes)) (append_assoc text (10 ∷ []) rest)
    ∙ ap (lines_from head before n) (line_then text rest clear)
    ∙ rw (read, next) refl

pub then_taken : (head : Head) (before : List Line) (n : ℕ) (a b : List ℕ) (xs ys : List Line) (k m : ℕ) → Takes head before n a xs k → Takes head (reverse xs ++ before) k b ys m → Takes head before n (a ++ b) (xs ++ ys) m
then_taken head before n a b xs ys k m first second rest =
    ap (λ bytes. lines_from head before n (lines_of bytes)) (append_assoc a b rest)
    ∙ first (b ++ rest)
    ∙ second rest
    ∙ ap (λ lines. lines_from head lines m (lines_of rest)) (sym (ap (λ lines. lines ++ before) (reverse-append xs ys) ∙ append_assoc (reverse ys) (reverse xs) before))
