-- What a line of a report is read as.
use Rattle.std.proofs.Common.{◌≡◌, ℕ, ◌<◌, ◌≤◌, ◌^◌, List, [], ◌∷◌, ◌++◌, length, All, true, false, ◌&&◌, eqb, ltb, Some, codes, refl, sym, ap, ◌∙◌, arith, append_assoc}
use Rattle.std.specs.Fmt.{decimal}
use Rattle.std.specs.List.{onto_first}
use Rattle.std.specs.Option.{option_and_then}
use Rattle.std.proofs.lemmas.Bool.{cond-true, cond-false}
use Rattle.std.proofs.lemmas.Bool.Decides.{nat_tests}
use Rattle.std.proofs.lemmas.List.Elements.{All-cons, All-nil}
use Rattle.std.proofs.lemmas.List.Splits.{slice_split_at}
use Rattle.xc_base.specs.Numbers.{number_of}
use Rattle.xc_base.proofs.NumberLemmas.{numbers_are_decimal}
use Rattle.session_lines.specs.Lines.{lines_of, words_of}
use Rattle.report_turns.specs.TurnLines.{Finding, Next, actor_in, caller_actor, end, entry, entry_or_strange, finding_at, goes_on, is_last, line_in, next_of, place_in, session_line, turn_by, turn_in}
use Rattle.report_turns.proofs.TurnLemmas.{fourth}
use Rattle.text_law.proofs.Texts.{lacks}
use Rattle.text_law.proofs.TextLemmas.{decimal_lacks, decimal_lacks_letters, decimal_nonempty}
use Rattle.turn_law.proofs.FeedLemmas.{NoFeed, ◌⊕◌, literal, number}

-- ---- lines and words of a text

first_line_by : (line rest : List ℕ) → lacks 10 line ≡ true → lines_of (line ++ 10 ∷ rest) ≡ line ∷ lines_of rest
unfolding lines_of
first_line_by [] rest h = refl
first_line_by (b ∷ bs) rest h =
    let other : eqb b 10 ≡ false = grind (arith, h) in
    let more : lines_of (bs ++ 10 ∷ rest) ≡ bs ∷ lines_of rest = first_line_by bs rest (grind (arith, h)) in
    cond-false _ _ _ other ∙ ap (onto_first b) more

-- a line ends at its line feed
pub first_line : (line rest : List ℕ) → NoFeed line → lines_of (line ++ 10 ∷ rest) ≡ line ∷ lines_of rest
first_line line rest h = first_line_by line rest h.says

no_space : (word : List ℕ) → lacks 32 word ≡ true → All (λ b. eqb b 32 ≡ false) word
no_space [] h = All-nil (λ b. eqb b 32 ≡ false)
no_space (b ∷ bs) h =
    let other : eqb b 32 ≡ false = grind (arith, h) in
    let more : lacks 32 bs ≡ true = grind (arith, h) in
    All-cons (λ c. eqb c 32 ≡ false) b bs other (no_space bs more)

-- a word ends at its space
first_word : (word rest : List ℕ) → lacks 32 word ≡ true → words_of (word ++ 32 ∷ rest) ≡ word ∷ words_of rest
first_word word rest h = slice_split_at (λ b. eqb b 32) word 32 rest (no_space word h) refl

-- ---- lines that go on

goes_past : (line : List ℕ) (lines : List (List ℕ)) → next_of ((32 ∷ 32 ∷ line) ∷ lines) ≡ next_of lines
goes_past line lines = refl

-- a text of lines that go on, in which nothing is found
abbrev pub GoesOn : List ℕ → Type 0
GoesOn text = (rest : List ℕ) → next_of (lines_of (text ++ rest)) ≡ next_of (lines_of rest)

pub one_goes_on : (line : List ℕ) → NoFeed line → GoesOn ((32 ∷ 32 ∷ line) ++ codes "\n")
one_goes_on line h rest =
    let cut : lines_of ((32 ∷ 32 ∷ line) ++ 10 ∷ rest) ≡ (32 ∷ 32 ∷ line) ∷ lines_of rest = first_line (32 ∷ 32 ∷ line) rest (literal (codes "  ") refl ⊕ h) in
    ap (λ text. next_of (lines_of text)) (append_assoc (32 ∷ 32 ∷ line) (codes "\n") rest) ∙ (ap next_of cut ∙ goes_past line (lines_of rest))

pub none_goes_on : GoesOn []
none_goes_on rest = refl

pub both_go_on : (one other : List ℕ) → GoesOn one → GoesOn other → GoesOn (one ++ other)
both_go_on one other h k rest = ap (λ text. next_of (lines_of text)) (append_assoc one other rest) ∙ (h (other ++ rest) ∙ k rest)

-- ---- the first line of an entry

number_is : (n : ℕ) → n < 2 ^ 64 → number_of (decimal n) ≡ Some n
number_is n lt = (numbers_are_decimal (decimal n) n).1 (refl, lt)

line_is : (n : ℕ) → n < 2 ^ 32 → line_in (decimal n) ≡ Some n
unfolding line_in
line_is n lt =
    let small : ltb n (2 ^ 32) ≡ true = grind (arith, nat_tests, lt) in
    ap (option_and_then session_line) (number_is n (omega (arith, lt))) ∙ cond-true _ _ _ small

pub driver_is : actor_in (codes "d") ≡ Some 0
unfolding actor_in
driver_is = refl

in_range : (n : ℕ) → 1 ≤ n → n < 2 ^ 16 → caller_actor n ≡ Some n
in_range n some lt =
    let within : (ltb 0 n && ltb n (2 ^ 16)) ≡ true = grind (arith, nat_tests, some, lt) in
    cond-true _ _ _ within

pub caller_is : (n : ℕ) → 1 ≤ n → n < 2 ^ 16 → actor_in (99 ∷ decimal n) ≡ Some n
unfolding actor_in
caller_is n some lt = ap (option_and_then caller_actor) (number_is n (omega (arith, lt))) ∙ in_range n some lt

place_is : (line actor : ℕ) (word : List ℕ) → line < 2 ^ 32 → actor_in word ≡ Some actor → place_in (decimal line) word ≡ Some record { actor = actor; line = line }
unfolding place_in
place_is line actor word lt is = rw (line_is line lt, is) refl

-- what begins with another byte than a space, and than an `e`
begins_no_further : (first rest : List ℕ) → 0 < length first → lacks 32 first ≡ true → goes_on (first ++ rest) ≡ false
begins_no_further [] rest some h = absurd (omega arith)
begins_no_further (b ∷ bs) rest some h = let other : eqb b 32 ≡ false = grind (arith, h) in rw other refl

begins_no_end : (first rest : List ℕ) → 0 < length first → lacks 101 first ≡ true → is_last (first ++ rest) ≡ false
begins_no_end [] rest some h = absurd (omega arith)
begins_no_end (b ∷ bs) rest some h = let other : eqb b 101 ≡ false = grind (arith, h) in rw other refl

-- the words of such a line, of which the last ones stand for what happens
abbrev entry_words : ℕ → ℕ → List ℕ → List ℕ → List ℕ
entry_words n line word what = decimal n ++ 32 ∷ (decimal line ++ 32 ∷ (word ++ 32 ∷ what))

turn_is : (n line actor : ℕ) (word what : List ℕ) → line < 2 ^ 32 → actor_in word ≡ Some actor → lacks 32 word ≡ true
    → turn_in (entry_words n line word what) ≡ Some record { actor = actor; line = line }
unfolding turn_in
turn_is n line actor word what lt is one =
    let third = first_word word what one in
    let second = first_word (decimal line) (word ++ 32 ∷ what) (decimal_lacks 32 line (omega arith)) in
    let first = first_word (decimal n) (decimal line ++ 32 ∷ (word ++ 32 ∷ what)) (decimal_lacks 32 n (omega arith)) in
    ap turn_by (first ∙ ap (λ words. decimal n ∷ words) (second ∙ ap (λ words. decimal line ∷ words) third))
    ∙ (fourth (decimal n) (decimal line) word what ∙ place_is line actor word lt is)

finding_is : (n line actor : ℕ) (word what : List ℕ) → line < 2 ^ 32 → actor_in word ≡ Some actor → lacks 32 word ≡ true
    → finding_at (entry_words n line word what) ≡ entry record { actor = actor; line = line }
unfolding finding_at
finding_is n line actor word what lt is one =
    cond-false _ _ _ (begins_no_end (decimal n) (32 ∷ (decimal line ++ 32 ∷ (word ++ 32 ∷ what))) (decimal_nonempty n) (decimal_lacks_letters 101 n (omega arith)))
    ∙ ap entry_or_strange (turn_is n line actor word what lt is one)

-- a finding, and the lines behind it
abbrev pub next_with : Finding → List (List ℕ) → Next
next_with finding lines = record { finding = finding; behind = lines }

line_found : (n line actor : ℕ) (word what : List ℕ) (lines : List (List ℕ)) → line < 2 ^ 32 → actor_in word ≡ Some actor → lacks 32 word ≡ true
    → next_of (entry_words n line word what ∷ lines) ≡ next_with (entry record { actor = actor; line = line }) lines
line_found n line actor word what lines lt is one =
    cond-false _ _ _ (begins_no_further (decimal n) (32 ∷ (decimal line ++ 32 ∷ (word ++ 32 ∷ what))) (decimal_nonempty n) (decimal_lacks 32 n (omega arith)))
    ∙ ap (λ (finding : Finding). next_with finding lines) (finding_is n line actor word what lt is one)

-- the rest of a text, behind the words of its first line
behind : (a b c d rest : List ℕ) → a ++ 32 ∷ (b ++ 32 ∷ (c ++ 32 ∷ (d ++ rest))) ≡ (a ++ 32 ∷ (b ++ 32 ∷ (c ++ 32 ∷ d))) ++ rest
behind a b c d rest =
    sym (append_assoc a (32 ∷ (b ++ 32 ∷ (c ++ 32 ∷ d))) rest
    ∙ ap (λ text. a ++ 32 ∷ text) (append_assoc b (32 ∷ (c ++ 32 ∷ d)) rest ∙ ap (λ text. b ++ 32 ∷ text) (append_assoc c (32 ∷ d) rest)))

pub entry_found : (n line actor : ℕ) (word what rest : List ℕ) → line < 2 ^ 32 → actor_in word ≡ Some actor → lacks 32 word ≡ true → NoFeed word → NoFeed what
    → next_of (lines_of (decimal n ++ 32 ∷ (decimal line ++ 32 ∷ (word ++ 32 ∷ (what ++ 10 ∷ rest))))) ≡ next_with (entry record { actor = actor; line = line }) (lines_of rest)
entry_found n line actor word what rest lt is one here more =
    let space = literal (codes " ") refl in
    let whole : NoFeed (entry_words n line word what) = number n ⊕ (space ⊕ (number line ⊕ (space ⊕ (here ⊕ (space ⊕ more))))) in
    ap (λ text. next_of (lines_of text)) (behind (decimal n) (decimal line) word what (10 ∷ rest))
    ∙ (ap next_of (first_line (entry_words n line word what) rest whole) ∙ line_found n line actor word what (lines_of rest) lt is one)

-- ---- the last line

last_found : (line : List ℕ) (lines : List (List ℕ)) → (next_of ((codes "end " ++ line) ∷ lines)).finding ≡ end
unfolding finding_at
last_found line lines = refl

pub end_found : (line rest : List ℕ) → NoFeed line → (next_of (lines_of ((codes "end " ++ line) ++ 10 ∷ rest))).finding ≡ end
end_found line rest h = ap (λ lines. (next_of lines).finding) (first_line (codes "end " ++ line) rest (literal (codes "end ") refl ⊕ h)) ∙ last_found line (lines_of rest)
