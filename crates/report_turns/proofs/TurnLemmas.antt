-- Words of a line, their numbers, and what they say.
use Rattle.std.proofs.Common.{◌≡◌, ◌<◌, ◌^◌, ◌+◌, ℕ, Bool, true, false, cond, eqb, ltb, List, [], ◌∷◌, length, take, drop, Option, Some, None, refl, sym, ap, ◌∙◌, arith}
use Rattle.std.specs.Fmt.{decimal}
use Rattle.std.specs.List.{position, position_or_len}
use Rattle.std.specs.Str.{IsUtf8}
use Rattle.std.proofs.lemmas.Bool.Decides.{nat_tests}
use Rattle.std.proofs.lemmas.Fmt.{IsAscii-from_digits, decimal_is_IsNumeral}
use Rattle.std.proofs.lemmas.List.Elements.{All-from_get_or}
use Rattle.std.proofs.lemmas.List.Splits.{length-slice_split, slice_split_first, slice_split_none}
use Rattle.std.proofs.lemmas.List.Sums.{fails_before_first}
use Rattle.std.proofs.lemmas.Str.{IsUtf8-from_ascii}
use Rattle.xc_base.specs.Numbers.{number_of}
use Rattle.xc_base.proofs.NumberLemmas.{numbers_are_decimal}
use Rattle.session_lines.specs.Lines.{lines_of, words_of}
use Rattle.report_turns.specs.TurnLines.{FoundInTurn, finding_at, findings_in, goes_on, next_of, place_in, turn_by, turn_in, with_more}

-- ---- numbers

no_number : (o : Option ℕ) → ((n : ℕ) → o ≡ Some n → ⊥) → None ≡ o
no_number None h = refl
no_number (Some n) h = absurd (h n refl)

number_text : (word : List ℕ) (n : ℕ) → word ≡ decimal n → n < 2 ^ 64 → IsUtf8 word
number_text word n is lt = rw is (IsUtf8-from_ascii (decimal n) (IsAscii-from_digits (decimal n) (decimal_is_IsNumeral n lt).0.1))

-- bytes that are no text have no number
pub number_is_text : (word : List ℕ) → (IsUtf8 word → ⊥) → None ≡ number_of word
number_is_text word h = no_number (number_of word) (λ n e. let is = (numbers_are_decimal word n).0 e in h (number_text word n is.0 is.1))

-- ---- words

abbrev space : List ℕ → ℕ
space line = position_or_len (λ b. eqb b 32) line

cut_by : (t : Bool) (line : List ℕ) (at : ℕ) → ltb (space line) (length line) ≡ t → Some at ≡ cond t (Some (space line)) None
    → words_of line ≡ take at line ∷ words_of (drop (at + 1) line)
cut_by true line at is e =
    let same : at ≡ space line = cc e in
    rw same (slice_split_first (λ b. eqb b 32) line 0 (grind (arith, nat_tests, is)))
cut_by false line at is e = absurd (cc e)

-- the first word ends at the first space
pub word_cut : (line : List ℕ) (at : ℕ) → Some at ≡ position (λ b. eqb b 32) line → words_of line ≡ take at line ∷ words_of (drop (at + 1) line)
word_cut line at e = cut_by (ltb (space line) (length line)) line at refl e

last_by : (t : Bool) (line : List ℕ) → ltb (space line) (length line) ≡ t → None ≡ cond t (Some (space line)) None → words_of line ≡ line ∷ []
last_by true line is e = absurd (cc e)
last_by false line is e =
    slice_split_none (λ b. eqb b 32) line
    (All-from_get_or (λ b. eqb b 32 ≡ false) line 0 (λ k lt. fails_before_first (λ b. eqb b 32) line k 0 (grind (arith, nat_tests, is, lt))))

-- where there is no space, the line is the one word
pub word_last : (line : List ℕ) → None ≡ position (λ b. eqb b 32) line → words_of line ≡ line ∷ []
word_last line e = last_by (ltb (space line) (length line)) line refl e

fourth_by : (number line actor : List ℕ) (rest : List (List ℕ)) → 0 < length rest → turn_by (number ∷ line ∷ actor ∷ rest) ≡ place_in line actor
fourth_by number line actor [] some = absurd (omega arith)
fourth_by number line actor (what ∷ more) some = refl

-- of four words and more, the second and the third are read
pub fourth : (number line actor what : List ℕ) → turn_by (number ∷ line ∷ actor ∷ words_of what) ≡ place_in line actor
fourth number line actor what = fourth_by number line actor (words_of what) (let some = length-slice_split (λ b. eqb b 32) what in omega (arith, some))

-- lines with too few words, and one with the three that are read or passed over and more
pub one_word : (line : List ℕ) → words_of line ≡ line ∷ [] → None ≡ turn_in line
unfolding turn_in
one_word line is = sym (ap turn_by is)

pub two_words : (line number rest : List ℕ) → words_of line ≡ number ∷ words_of rest → words_of rest ≡ rest ∷ [] → None ≡ turn_in line
unfolding turn_in
two_words line number rest is last = sym (ap turn_by (is ∙ ap (λ words. number ∷ words) last))

pub three_words : (line number rest place more : List ℕ) → words_of line ≡ number ∷ words_of rest → words_of rest ≡ place ∷ words_of more → words_of more ≡ more ∷ []
    → None ≡ turn_in line
unfolding turn_in
three_words line number rest place more is then last = sym (ap turn_by (is ∙ ap (λ words. number ∷ words) (then ∙ ap (λ words. place ∷ words) last)))

pub four_words : (line number rest place more actor what : List ℕ) → words_of line ≡ number ∷ words_of rest → words_of rest ≡ place ∷ words_of more → words_of more ≡ actor ∷ words_of what
    → place_in place actor ≡ turn_in line
unfolding turn_in
four_words line number rest place more actor what is then last =
    sym (ap turn_by (is ∙ ap (λ words. number ∷ words) (then ∙ ap (λ words. place ∷ words) last)) ∙ fourth number place actor what)

-- ---- lines

pub no_lines : (bytes : List ℕ) → bytes ≡ [] → lines_of bytes ≡ []
unfolding lines_of
no_lines bytes is = ap lines_of is

goes_by : (t : Bool) (line : List ℕ) (lines : List (List ℕ)) → goes_on line ≡ t → next_of (line ∷ lines) ≡ cond t (next_of lines) record { finding = finding_at line; behind = lines }
goes_by true line lines is = rw is refl
goes_by false line lines is = rw is refl

-- a line that goes on is passed over, and any other is what is found
pub passed_over : (lines : List (List ℕ)) (line : List ℕ) (rest : List (List ℕ)) → lines ≡ line ∷ rest → goes_on line ≡ true → next_of lines ≡ next_of rest
passed_over lines line rest is on = ap next_of is ∙ goes_by true line rest on

pub found_here : (lines : List (List ℕ)) (line : List ℕ) (rest : List (List ℕ)) → lines ≡ line ∷ rest → goes_on line ≡ false → next_of lines ≡ record { finding = finding_at line; behind = rest }
found_here lines line rest is on = ap next_of is ∙ goes_by false line rest on

-- ---- one after another

in_turn : (t : Bool) (line : List ℕ) (lines : List (List ℕ)) → goes_on line ≡ t
    → findings_in lines ≡ with_more (next_of lines).finding (findings_in (next_of lines).behind)
    → findings_in (line ∷ lines) ≡ with_more (next_of (line ∷ lines)).finding (findings_in (next_of (line ∷ lines)).behind)
in_turn true line lines is more = rw is more
in_turn false line lines is more = rw is refl

pub found_in_turn : FoundInTurn
found_in_turn [] = refl
found_in_turn (line ∷ lines) = in_turn (goes_on line) line lines refl (found_in_turn lines)
