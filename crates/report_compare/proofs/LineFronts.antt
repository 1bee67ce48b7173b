-- The first lines of a text.
use Rattle.std.proofs.Common.{◌≡◌, ◌≢◌, ◌≤◌, ◌<◌, ◌↔◌, ℕ, zero, suc, ◌+◌, ◌-◌, ◌^◌, Bool, true, false, cond, eqb, ltb, if◌then◌else◌, List, [], ◌∷◌, ◌++◌, length, take, Some, None, refl, sym, ap, subst, ◌∙◌, append_assoc, append-nil, arith}
use Rattle.std.specs.List.{onto_first, position, position_or_len}
use Rattle.std.proofs.lemmas.List.{length-append}
use Rattle.std.proofs.lemmas.Bool.Decides.{nat_tests}
use Rattle.front_law.specs.FrontLaw.{IsFrontOf}
use Rattle.front_law.proofs.Fronts.{front_behind, front_nothing, front_of_front}
use Rattle.session_lines.specs.Lines.{lines_of}
use Rattle.report_compare.specs.FirstLines.{first_lines}

-- ---- the first line

-- the place of the first line feed, or the length
abbrev feed : List ℕ → ℕ
feed text = position_or_len (λ b. eqb b 10) text

abbrev EndsAtFeed : List ℕ → Type 0
EndsAtFeed text = feed text < length text → take (feed text + 1) text ≡ first_lines 1 text

ends_by : (b : ℕ) (bs : List ℕ) (is : Bool) → eqb b 10 ≡ is → EndsAtFeed bs → EndsAtFeed (b ∷ bs)
unfolding first_lines
ends_by b bs true e rest lt = rw e refl
ends_by b bs false e rest lt =
    let one : 1 + feed bs ≡ suc (feed bs) = omega arith in
    let two : suc (feed bs) + 1 ≡ suc (feed bs + 1) = omega arith in
    let less = rw e at lt in
    rw (e, one, two) (ap (λ (t : List ℕ). b ∷ t) (rest (omega (arith, less))))

ends : (text : List ℕ) → EndsAtFeed text
ends [] lt = absurd (omega (arith, lt))
ends (b ∷ bs) lt = ends_by b bs (eqb b 10) refl (ends bs) lt

abbrev IsOneLine : List ℕ → Type 0
IsOneLine text = length text ≤ feed text → text ≡ first_lines 1 text

one_line_by : (b : ℕ) (bs : List ℕ) (is : Bool) → eqb b 10 ≡ is → IsOneLine bs → IsOneLine (b ∷ bs)
unfolding first_lines
one_line_by b bs true e rest le = absurd (let more = rw e at le in omega (arith, more))
one_line_by b bs false e rest le =
    let more = rw e at le in
    rw e (ap (λ (t : List ℕ). b ∷ t) (rest (omega (arith, more))))

one_line : (text : List ℕ) → IsOneLine text
unfolding first_lines
one_line [] le = refl
one_line (b ∷ bs) le = one_line_by b bs (eqb b 10) refl (one_line bs) le

at_by : (t : Bool) (text : List ℕ) (at : ℕ) → ltb (feed text) (length text) ≡ t → Some at ≡ cond t (Some (feed text)) None → take (at + 1) text ≡ first_lines 1 text
at_by true text at is e =
    let same : at ≡ feed text = cc e in
    rw same (ends text (grind (arith, nat_tests, is)))
at_by false text at is e = absurd (cc e)

-- the first line ends behind the first line feed
pub line_at : (text : List ℕ) (at : ℕ) → Some at ≡ position (λ b. eqb b 10) text → take (at + 1) text ≡ first_lines 1 text
line_at text at e = at_by (ltb (feed text) (length text)) text at refl e

last_by : (t : Bool) (text : List ℕ) → ltb (feed text) (length text) ≡ t → None ≡ cond t (Some (feed text)) None → text ≡ first_lines 1 text
last_by true text is e = absurd (cc e)
last_by false text is e = one_line text (grind (arith, nat_tests, is))

-- where there is no line feed, the text is the one line
pub line_last : (text : List ℕ) → None ≡ position (λ b. eqb b 10) text → text ≡ first_lines 1 text
line_last text e = last_by (ltb (feed text) (length text)) text refl e

-- only nothing has no first line
pub no_line : (text line : List ℕ) → line ≡ first_lines 1 text → (line ≡ []) ↔ (text ≡ [])
unfolding first_lines
no_line [] line is = (λ none. refl, λ none. is)
no_line (b ∷ bs) line is =
    let some : line ≡ b ∷ first_lines (if eqb b 10 then 0 else 1) bs = is in
    (λ none. absurd (cc (some, none)), λ none. absurd (cc none))

-- ---- more lines

pub none_first : (text : List ℕ) → first_lines 0 text ≡ []
unfolding first_lines
none_first text = refl

abbrev tail_of : List ℕ → List ℕ
tail_of [] = []
tail_of (b ∷ bs) = bs

abbrev GoesOn : ℕ → List ℕ → List ℕ → Type 0
GoesOn n text rest = first_lines n text ++ rest ≡ text → first_lines (suc n) text ≡ first_lines n text ++ first_lines 1 rest

one_more_by : (b : ℕ) (bs rest : List ℕ) (n : ℕ) (is : Bool) → GoesOn n bs rest → GoesOn (suc n) bs rest
    → b ∷ (first_lines (if is then n else suc n) bs ++ rest) ≡ b ∷ bs
    → b ∷ first_lines (if is then suc n else suc (suc n)) bs ≡ b ∷ (first_lines (if is then n else suc n) bs ++ first_lines 1 rest)
one_more_by b bs rest n true behind within is = ap (λ (t : List ℕ). b ∷ t) (behind (ap tail_of is))
one_more_by b bs rest n false behind within is = ap (λ (t : List ℕ). b ∷ t) (within (ap tail_of is))

-- the next line is the first one of what stands behind the others
one_more : (n : ℕ) (text rest : List ℕ) → GoesOn n text rest
unfolding first_lines
one_more zero text rest is = ap (first_lines 1) (sym is)
one_more (suc n) [] rest is = ap (first_lines 1) (sym is)
one_more (suc n) (b ∷ bs) rest is = one_more_by b bs rest n (eqb b 10) (one_more n bs rest) (one_more (suc n) bs rest) is

fewer_by : (b : ℕ) (bs : List ℕ) (m n : ℕ) (is : Bool) → IsFrontOf (first_lines m bs) (first_lines n bs) → IsFrontOf (first_lines (suc m) bs) (first_lines (suc n) bs)
    → IsFrontOf (b ∷ first_lines (if is then m else suc m) bs) (b ∷ first_lines (if is then n else suc n) bs)
fewer_by b bs m n true behind within = front_behind (b ∷ []) (first_lines m bs) (first_lines n bs) behind
fewer_by b bs m n false behind within = front_behind (b ∷ []) (first_lines (suc m) bs) (first_lines (suc n) bs) within

-- fewer lines begin more
pub fewer_lines : (m n : ℕ) (text : List ℕ) → m ≤ n → IsFrontOf (first_lines m text) (first_lines n text)
unfolding first_lines
fewer_lines zero n text le = front_nothing (first_lines n text)
fewer_lines (suc m) zero text le = absurd (omega (arith, le))
fewer_lines (suc m) (suc n) [] le = front_nothing []
fewer_lines (suc m) (suc n) (b ∷ bs) le =
    fewer_by b bs m n (eqb b 10) (fewer_lines m n bs (omega (arith, le))) (fewer_lines (suc m) (suc n) bs le)

-- ---- so many lines

feed_on : (b : ℕ) (lines : List (List ℕ)) (n : ℕ) → length lines ≤ suc n → length (onto_first b lines) ≤ suc n
feed_on b [] n le = omega arith
feed_on b (line ∷ lines) n le = le

few_by : (b : ℕ) (bs : List ℕ) (n : ℕ) (is : Bool) → length (lines_of (first_lines n bs)) ≤ n → length (lines_of (first_lines (suc n) bs)) ≤ suc n
    → length (if is then [] ∷ lines_of (first_lines (if is then n else suc n) bs) else onto_first b (lines_of (first_lines (if is then n else suc n) bs))) ≤ suc n
few_by b bs n true behind within = omega (arith, behind)
few_by b bs n false behind within = feed_on b (lines_of (first_lines (suc n) bs)) n within

-- the first lines are no more than so many
few_lines : (n : ℕ) (text : List ℕ) → length (lines_of (first_lines n text)) ≤ n
unfolding first_lines lines_of
few_lines zero [] = omega arith
few_lines zero (b ∷ bs) = omega arith
few_lines (suc n) [] = omega arith
few_lines (suc n) (b ∷ bs) = few_by b bs n (eqb b 10) (few_lines n bs) (few_lines (suc n) bs)

-- ---- two texts

-- A report and a text have so many first lines in common, and these are left of them. There are no more lines than bytes.
pub record AreParted (lines : ℕ) (report text report_left text_left : List ℕ) : Type 0 where
  pub found : first_lines lines report ++ report_left ≡ report
  pub legal : first_lines lines report ++ text_left ≡ text
  pub alike : first_lines lines text ≡ first_lines lines report
  pub few : lines + length report_left ≤ length report

pub parted_first : (report text : List ℕ) → AreParted 0 report text report text
parted_first report text = record {
  found = ap (λ (t : List ℕ). t ++ report) (none_first report);
  legal = ap (λ (t : List ℕ). t ++ text) (none_first report);
  alike = none_first text ∙ sym (none_first report);
  few = omega arith;
}

some_bytes : (line : List ℕ) → line ≢ [] → 1 ≤ length line
some_bytes [] some = absurd (some refl)
some_bytes (b ∷ bs) some = omega arith

-- one line more
pub parted_next : (lines next : ℕ) (report text report_left text_left line other report_after text_after : List ℕ) → AreParted lines report text report_left text_left
    → next ≡ lines + 1 → line ++ report_after ≡ report_left → line ≡ first_lines 1 report_left → other ++ text_after ≡ text_left → other ≡ first_lines 1 text_left → line ≢ [] → line ≡ other
    → AreParted next report text report_after text_after
parted_next lines next report text report_left text_left line other report_after text_after parted number cut first other_cut other_first some same =
    let front = first_lines lines report in
    let suc_is : next ≡ suc lines = omega (arith, number) in
    let more : first_lines next report ≡ front ++ line = ap (λ n. first_lines n report) suc_is ∙ (one_more lines report report_left parted.found ∙ ap (λ (t : List ℕ). front ++ t) (sym first)) in
    let text_is : first_lines lines text ++ text_left ≡ text = ap (λ (t : List ℕ). t ++ text_left) parted.alike ∙ parted.legal in
    let text_more : first_lines next text ≡ front ++ other =
    ap (λ n. first_lines n text) suc_is ∙ (one_more lines text text_left text_is ∙ (ap (λ (t : List ℕ). t ++ first_lines 1 text_left) parted.alike ∙ ap (λ (t : List ℕ). front ++ t) (sym other_first))) in
    let bytes : 1 ≤ length line = some_bytes line some in
    let whole : length report_left ≡ length line + length report_after = ap length (sym cut) ∙ length-append line report_after in
    let before : lines + length report_left ≤ length report = parted.few in
    record {
      found = ap (λ (t : List ℕ). t ++ report_after) more ∙ (append_assoc front line report_after ∙ (ap (λ (t : List ℕ). front ++ t) cut ∙ parted.found));
      legal = ap (λ (t : List ℕ). t ++ text_after) more ∙ (append_assoc front line text_after ∙ (ap (λ (t : List ℕ). front ++ (t ++ text_after)) same ∙ (ap (λ (t : List ℕ). front ++ t) other_cut ∙ parted.legal)));
      alike = text_more ∙ (ap (λ (t : List ℕ). front ++ t) (sym same) ∙ sym more);
      few = omega (arith, number, bytes, whole, before);
    }

-- ---- where they differ

cancel : (front one other : List ℕ) → front ++ one ≡ front ++ other → one ≡ other
cancel [] one other is = is
cancel (b ∷ front) one other is = cancel front one other (ap tail_of is)

ended : (lines line : ℕ) (report text report_left text_left : List ℕ) → AreParted lines report text report_left text_left → line ≡ lines + 1 → report_left ≡ [] → length (lines_of report) < line
ended lines line report text report_left text_left parted number none =
    let whole : first_lines lines report ≡ report = sym (append-nil (first_lines lines report)) ∙ (ap (λ (t : List ℕ). first_lines lines report ++ t) (sym none) ∙ parted.found) in
    let few : length (lines_of report) ≤ lines = subst (λ (t : List ℕ). length (lines_of t) ≤ lines) whole (few_lines lines report) in
    omega (arith, number, few)

differ_by : (lines line : ℕ) (report text report_left text_left found : List ℕ) → AreParted lines report text report_left text_left → line ≡ lines + 1 → found ≡ first_lines 1 report_left → (found ≢ [] → ⊥) → length (lines_of report) < line
differ_by lines line report text report_left text_left [] parted number is none = ended lines line report text report_left text_left parted number ((no_line report_left [] is).0 refl)
differ_by lines line report text report_left text_left (b ∷ bs) parted number is none = absurd (none (λ same. absurd (cc same)))

-- where the next lines aren't the same, the first lines with these differ, unless the report has ended
pub parted_differs : (lines line : ℕ) (report text report_left text_left found legal : List ℕ) → AreParted lines report text report_left text_left → line ≡ lines + 1 → found ≡ first_lines 1 report_left → legal ≡ first_lines 1 text_left
    → ((found ≢ []) × (found ≡ legal) → ⊥) → first_lines line report ≡ first_lines line text → length (lines_of report) < line
parted_differs lines line report text report_left text_left found legal parted number found_is legal_is apart same =
    let front = first_lines lines report in
    let suc_is : line ≡ suc lines = omega (arith, number) in
    let text_is : first_lines lines text ++ text_left ≡ text = ap (λ (t : List ℕ). t ++ text_left) parted.alike ∙ parted.legal in
    let ours : first_lines line report ≡ front ++ found = ap (λ n. first_lines n report) suc_is ∙ (one_more lines report report_left parted.found ∙ ap (λ (t : List ℕ). front ++ t) (sym found_is)) in
    let theirs : first_lines line text ≡ front ++ legal =
    ap (λ n. first_lines n text) suc_is ∙ (one_more lines text text_left text_is ∙ (ap (λ (t : List ℕ). t ++ first_lines 1 text_left) parted.alike ∙ ap (λ (t : List ℕ). front ++ t) (sym legal_is))) in
    let one : found ≡ legal = cancel front found legal (sym ours ∙ (same ∙ theirs)) in
    differ_by lines line report text report_left text_left found parted number found_is (λ some. apart (some, one))

-- a report has fewer lines than numbers can tell
pub never_ends : (lines : ℕ) (report text report_left text_left : List ℕ) → AreParted lines report text report_left text_left → length report < 2 ^ 63 → lines ≡ 2 ^ 64 - 1 → ⊥
never_ends lines report text report_left text_left parted short many = let few = parted.few in omega (arith, short, many, few)

-- what stands above a line up to which they are the same begins the text
pub parted_above : (lines line : ℕ) (report text report_left text_left : List ℕ) → AreParted lines report text report_left text_left → line ≤ lines + 1 → IsFrontOf (first_lines (line - 1) report) text
parted_above lines line report text report_left text_left parted le =
    front_of_front (first_lines (line - 1) report) (first_lines lines report) text (fewer_lines (line - 1) lines report (omega (arith, le))) (record { rest = text_left; begins = sym parted.legal })
