-- The first lines of texts.
use Rattle.std.proofs.Common.{◌≡◌, ℕ, zero, suc, ◌+◌, ◌-◌, ◌<◌, ◌≤◌, List, [], ◌∷◌, ◌++◌, Bool, true, false, cond, eqb, refl, sym, ap, subst, ◌∙◌, arith}
use Rattle.std.proofs.lemmas.Bool.Decides.{nat_tests}
use Rattle.report_compare.specs.FirstLines.{first_lines}
use Rattle.alike_law.proofs.WholeTexts.{IsWhole, feeds, whole_nothing, whole_with}

-- how many lines are left behind a byte
abbrev left : ℕ → ℕ → ℕ
left b n = cond (eqb b 10) (n - 1) n

of_nothing : (n : ℕ) → first_lines n [] ≡ []
unfolding first_lines
of_nothing zero = refl
of_nothing (suc n) = refl

-- none, and some
no_lines : (n b : ℕ) (bs : List ℕ) → eqb n 0 ≡ true → first_lines n (b ∷ bs) ≡ []
unfolding first_lines
no_lines zero b bs is = refl
no_lines (suc n) b bs is =
    let none : suc n ≡ 0 = grind (arith, nat_tests, is) in
    absurd (omega (arith, none))

some_lines : (n b : ℕ) (bs : List ℕ) → eqb n 0 ≡ false → first_lines n (b ∷ bs) ≡ b ∷ first_lines (left b n) bs
unfolding first_lines
some_lines zero b bs is = absurd (cc is)
some_lines (suc n) b bs is =
    let same : n ≡ suc n - 1 = omega arith in
    ap (λ (m : ℕ). b ∷ first_lines (cond (eqb b 10) m (suc n)) bs) same

none_of : (n : ℕ) (text : List ℕ) → eqb n 0 ≡ true → first_lines n text ≡ []
none_of n [] is = of_nothing n
none_of n (b ∷ bs) is = no_lines n b bs is

left_within : (t : Bool) (n i : ℕ) → n ≤ cond t (i + 1) i → cond t (n - 1) n ≤ i
left_within true n i le = omega (arith, le)
left_within false n i le = le

left_beyond : (t : Bool) (n i : ℕ) → cond t (i + 1) i < n → i < cond t (n - 1) n
left_beyond true n i lt = omega (arith, lt)
left_beyond false n i lt = lt

-- ---- the rest stands behind them

behind_by : (t : Bool) (n b : ℕ) (bs : List ℕ) → eqb n 0 ≡ t → (rest : List ℕ) × (bs ≡ first_lines (left b n) bs ++ rest) → (rest : List ℕ) × (b ∷ bs ≡ first_lines n (b ∷ bs) ++ rest)
behind_by true n b bs is more = (b ∷ bs, ap (λ (text : List ℕ). text ++ b ∷ bs) (sym (no_lines n b bs is)))
behind_by false n b bs is more =
    (more.0, ap (λ (text : List ℕ). b ∷ text) more.1 ∙ ap (λ (text : List ℕ). text ++ more.0) (sym (some_lines n b bs is)))

pub behind_first : (n : ℕ) (text : List ℕ) → (rest : List ℕ) × (text ≡ first_lines n text ++ rest)
behind_first n [] = ([], ap (λ (text : List ℕ). text ++ []) (sym (of_nothing n)))
behind_first n (b ∷ bs) = behind_by (eqb n 0) n b bs refl (behind_first (left b n) bs)

-- ---- a text with fewer lines

pub first_all : (n : ℕ) (text : List ℕ) → feeds text < n → first_lines n text ≡ text
first_all n [] lt = of_nothing n
first_all n (b ∷ bs) lt =
    let some : eqb n 0 ≡ false = grind (arith, nat_tests, lt) in
    some_lines n b bs some ∙ ap (λ (text : List ℕ). b ∷ text) (first_all (left b n) bs (left_beyond (eqb b 10) n (feeds bs) lt))

-- ---- a text with so many lines

within_by : (t : Bool) (n b : ℕ) (x y : List ℕ) → eqb n 0 ≡ t → first_lines (left b n) (x ++ y) ≡ first_lines (left b n) x → first_lines n (b ∷ (x ++ y)) ≡ first_lines n (b ∷ x)
within_by true n b x y is more = no_lines n b (x ++ y) is ∙ sym (no_lines n b x is)
within_by false n b x y is more = some_lines n b (x ++ y) is ∙ (ap (λ (text : List ℕ). b ∷ text) more ∙ sym (some_lines n b x is))

-- what stands behind it doesn't matter
pub first_within : (n : ℕ) (x y : List ℕ) → n ≤ feeds x → first_lines n (x ++ y) ≡ first_lines n x
first_within n [] y le =
    let none : eqb n 0 ≡ true = grind (arith, nat_tests, le) in
    none_of n y none ∙ sym (of_nothing n)
first_within n (b ∷ x) y le = within_by (eqb n 0) n b x y refl (first_within (left b n) x y (left_within (eqb b 10) n (feeds x) le))

gained : (t : Bool) (n i : ℕ) → 0 < n → i ≡ cond t (n - 1) n → cond t (i + 1) i ≡ n
gained true n i some is = omega (arith, some, is)
gained false n i some is = is

some_left : (n : ℕ) → eqb n 0 ≡ false → 0 < n
some_left n is = grind (arith, nat_tests, is)

feeds_by : (t : Bool) (n b : ℕ) (x : List ℕ) → eqb n 0 ≡ t → feeds (first_lines (left b n) x) ≡ left b n → feeds (first_lines n (b ∷ x)) ≡ n
feeds_by true n b x is more =
    let none : 0 ≡ n = grind (arith, nat_tests, is) in
    ap feeds (no_lines n b x is) ∙ none
feeds_by false n b x is more = ap feeds (some_lines n b x is) ∙ gained (eqb b 10) n (feeds (first_lines (left b n) x)) (some_left n is) more

-- they end with so many line feeds
pub first_feeds : (n : ℕ) (text : List ℕ) → n ≤ feeds text → feeds (first_lines n text) ≡ n
first_feeds n [] le =
    let none : 0 ≡ n = omega (arith, le) in
    ap feeds (of_nothing n) ∙ none
first_feeds n (b ∷ x) le = feeds_by (eqb n 0) n b x refl (first_feeds (left b n) x (left_within (eqb b 10) n (feeds x) le))

still_left : (t : Bool) (n : ℕ) → 0 < n → t ≡ false → 0 < cond t (n - 1) n
still_left true n some other = absurd (cc other)
still_left false n some other = some

whole_by : (t : Bool) (n b : ℕ) (x : List ℕ) → eqb n 0 ≡ t → feeds (first_lines (left b n) x) ≡ left b n → IsWhole (first_lines (left b n) x) → IsWhole (first_lines n (b ∷ x))
whole_by true n b x is many more = subst IsWhole (sym (no_lines n b x is)) whole_nothing
whole_by false n b x is many more =
    subst IsWhole (sym (some_lines n b x is))
    (whole_with (eqb b 10) b (first_lines (left b n) x) refl (λ other. subst (λ (i : ℕ). 0 < i) (sym many) (still_left (eqb b 10) n (some_left n is) other)) more)

pub first_whole : (n : ℕ) (text : List ℕ) → n ≤ feeds text → IsWhole (first_lines n text)
first_whole n [] le = subst IsWhole (sym (of_nothing n)) whole_nothing
first_whole n (b ∷ x) le =
    let within : left b n ≤ feeds x = left_within (eqb b 10) n (feeds x) le in
    whole_by (eqb n 0) n b x refl (first_feeds (left b n) x within) (first_whole (left b n) x within)
