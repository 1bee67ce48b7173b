-- Texts that go alike for so many lines are the same, or part behind these.
use Rattle.std.proofs.Common.{◌≡◌, ◌⊎◌, inl, inr, ℕ, suc, ◌+◌, ◌<◌, ◌≤◌, List, [], ◌∷◌, ◌++◌, length, drop, Some, refl, sym, ap, ◌∙◌, append_assoc, arith}
use Rattle.std.specs.List.{slice_get}
use Rattle.std.proofs.lemmas.Bool.{cases_lt}
use Rattle.std.proofs.lemmas.List.{drop_at, length-append}
use Rattle.session_lines.specs.Lines.{lines_of}
use Rattle.listed_patterns.specs.ListedPatterns.{listed_from}
use Rattle.report_compare.specs.legal_history.Report.{report}
use Rattle.report_compare.specs.FirstLines.{first_lines}
use Rattle.alike_law.specs.AlikeTexts.{AlikeParts, GoesAlike, PartsAt}
use Rattle.alike_law.proofs.WholeTexts.{feeds}
use Rattle.alike_law.proofs.FirstLineLemmas.{behind_first, first_all, first_feeds, first_whole}

-- ---- a line in the middle of lines

found_at : (front rest : List (List ℕ)) (line : List ℕ) → slice_get (front ++ line ∷ rest) (length front) ≡ Some line
found_at [] rest line = refl
found_at (x ∷ front) rest line = found_at front rest line

one_more : (front : List (List ℕ)) (line : List ℕ) → length (front ++ line ∷ []) ≡ length front + 1
one_more [] line = refl
one_more (x ∷ front) line = let more : length (front ++ line ∷ []) ≡ length front + 1 = one_more front line in omega (arith, more)

behind_it : (front rest : List (List ℕ)) (line : List ℕ) → drop (length front + 1) (front ++ line ∷ rest) ≡ rest
behind_it front rest line =
    ap (drop (length front + 1)) (sym (append_assoc front (line ∷ []) rest)) ∙ drop_at (front ++ line ∷ []) rest (length front + 1) (one_more front line)

-- lines that begin with common ones, with one of these in the middle
spread : (all common back front rest : List (List ℕ)) (line : List ℕ) → all ≡ common ++ rest → common ≡ front ++ line ∷ back → all ≡ front ++ line ∷ (back ++ rest)
spread all common back front rest line is at = is ∙ (ap (λ (lines : List (List ℕ)). lines ++ rest) at ∙ append_assoc front (line ∷ back) rest)

listed_behind : (all back front rest : List (List ℕ)) (line : List ℕ) → all ≡ front ++ line ∷ (back ++ rest) → listed_from (drop (length front + 1) all) ≡ listed_from (back ++ rest)
listed_behind all back front rest line is =
    ap (λ (lines : List (List ℕ)). listed_from (drop (length front + 1) lines)) is ∙ ap listed_from (behind_it front (back ++ rest) line)

-- ---- texts with so many lines

lines_apart : (number : ℕ) (text : List ℕ) → number ≤ feeds text → lines_of text ≡ lines_of (first_lines number text) ++ lines_of (behind_first number text).0
lines_apart number text le =
    ap lines_of (behind_first number text).1 ∙ (first_whole number text le).parts (behind_first number text).0

early : (common front back : List (List ℕ)) (line : List ℕ) (number : ℕ) → length common ≡ number → common ≡ front ++ line ∷ back → length front < number
early common front back line number many at =
    let both : length common ≡ length front + suc (length back) = ap length at ∙ length-append front (line ∷ back) in
    omega (arith, both, many)

apart : (number : ℕ) (one other : List ℕ) → GoesAlike number one other → number ≤ feeds one → number ≤ feeds other → PartsAt number one other
apart number one other h le more =
    let common : List (List ℕ) = lines_of (first_lines number one) in
    let rest : List (List ℕ) = lines_of (behind_first number one).0 in
    let last : List (List ℕ) = lines_of (behind_first number other).0 in
    let one_is : lines_of one ≡ common ++ rest = lines_apart number one le in
    let other_is : lines_of other ≡ common ++ last =
    lines_apart number other more ∙ ap (λ (text : List ℕ). lines_of text ++ last) (sym h.lines) in
    let many : length common ≡ number = (first_whole number one le).counted ∙ first_feeds number one le in
    record {
      parting = record { common = common; one = rest; other = last };
      many = many;
      one_is = one_is;
      other_is = other_is;
      listed = λ front back line at on.
          let here : lines_of one ≡ front ++ line ∷ (back ++ rest) = spread (lines_of one) common back front rest line one_is at in
          let there : lines_of other ≡ front ++ line ∷ (back ++ last) = spread (lines_of other) common back front last line other_is at in
          let found : slice_get (lines_of one) (length front) ≡ Some line =
          ap (λ (lines : List (List ℕ)). slice_get lines (length front)) here ∙ found_at front (back ++ rest) line in
          sym (listed_behind (lines_of one) back front rest line here)
          ∙ (h.patterns (length front) line (early common front back line number many at) found on ∙ listed_behind (lines_of other) back front last line there);
    }

-- ---- the law

-- a text with fewer lines has no more of them in common with one that has so many
fewer : (number : ℕ) (short long : List ℕ) → feeds short < number → number ≤ feeds long → first_lines number short ≡ first_lines number long → ⊥
fewer number short long lt le is =
    let one : feeds (first_lines number short) ≡ feeds short = ap feeds (first_all number short lt) in
    let other : feeds (first_lines number long) ≡ number = first_feeds number long le in
    let both : feeds (first_lines number short) ≡ feeds (first_lines number long) = ap feeds is in
    absurd (omega (arith, one, other, both, lt))

parts_by : (number : ℕ) (one other : List ℕ) → GoesAlike number one other → (feeds one < number) ⊎ (number ≤ feeds one) → (feeds other < number) ⊎ (number ≤ feeds other)
    → (one ≡ other) ⊎ PartsAt number one other
parts_by number one other h (inl lt) (inl less) = inl (sym (first_all number one lt) ∙ (h.lines ∙ first_all number other less))
parts_by number one other h (inl lt) (inr more) = absurd (fewer number one other lt more h.lines)
parts_by number one other h (inr le) (inl less) = absurd (fewer number other one less le (sym h.lines))
parts_by number one other h (inr le) (inr more) = inr (apart number one other h le more)

pub alike_parts : AlikeParts
alike_parts number one s authorities history h =
    let other : List ℕ = report s authorities history in
    parts_by number one other h (cases_lt (feeds one) number) (cases_lt (feeds other) number)
