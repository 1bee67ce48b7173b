-- The first line of a text, and what the text begins with.
use Rattle.std.proofs.Common.{◌≡◌, ℕ, suc, List, [], ◌∷◌, ◌++◌, length, take, Bool, true, false, cond, eqb, All, refl, sym, ap, ◌∙◌}
use Rattle.std.specs.List.{onto_first}
use Rattle.std.proofs.lemmas.Bool.{cond-false}
use Rattle.std.proofs.lemmas.List.Elements.{All-head, All-tail}
use Rattle.session_lines.specs.Lines.{lines_of}
use Rattle.listed_patterns.proofs.EscapeLemmas.{IsOther}

-- a line ends at its line feed
pub first_line : (line rest : List ℕ) → All IsOther line → lines_of (line ++ 10 ∷ rest) ≡ line ∷ lines_of rest
unfolding lines_of
first_line [] rest h = refl
first_line (b ∷ bs) rest h = cond-false _ _ _ (All-head IsOther b bs h) ∙ ap (onto_first b) (first_line bs rest (All-tail IsOther b bs h))

-- a line of one byte has no longer front
one_byte : (f b : ℕ) (fs bs : List ℕ) → take (suc (length fs)) (b ∷ []) ≡ f ∷ fs → take (suc (length fs)) (b ∷ bs) ≡ f ∷ fs
one_byte f b [] bs h = h
one_byte f b (g ∷ gs) bs h = absurd (cc h)

front_by : (t : Bool) (more : List (List ℕ)) (f b : ℕ) (fs bs line : List ℕ) (lines : List (List ℕ)) → lines_of bs ≡ more
    → cond t ([] ∷ lines_of bs) (onto_first b (lines_of bs)) ≡ line ∷ lines → take (suc (length fs)) line ≡ f ∷ fs
    → ((x : List ℕ) (xs : List (List ℕ)) → lines_of bs ≡ x ∷ xs → take (length fs) x ≡ fs → take (length fs) bs ≡ fs) → take (suc (length fs)) (b ∷ bs) ≡ f ∷ fs
front_by true more f b fs bs line lines left is h goes_on =
    let none : line ≡ [] = cc is in
    let empty : [] ≡ f ∷ fs = ap (take (suc (length fs))) (sym none) ∙ h in
    absurd (cc empty)
front_by false [] f b fs bs line lines left is h goes_on =
    let cut : (b ∷ []) ∷ [] ≡ line ∷ lines = ap (onto_first b) (sym left) ∙ is in
    let one : b ∷ [] ≡ line = cc cut in
    one_byte f b fs bs (ap (take (suc (length fs))) one ∙ h)
front_by false (x ∷ xs) f b fs bs line lines left is h goes_on =
    let cut : (b ∷ x) ∷ xs ≡ line ∷ lines = ap (onto_first b) (sym left) ∙ is in
    let first : b ∷ x ≡ line = cc cut in
    let both : b ∷ take (length fs) x ≡ f ∷ fs = ap (take (suc (length fs))) first ∙ h in
    let more : take (length fs) bs ≡ fs = goes_on x xs left (cc both) in
    let same : b ≡ f = cc both in
    cc (same, more)

-- what the first line begins with, the text begins with
pub front_of_line : (front bytes line : List ℕ) (lines : List (List ℕ)) → lines_of bytes ≡ line ∷ lines → take (length front) line ≡ front → take (length front) bytes ≡ front
unfolding lines_of
front_of_line [] bytes line lines is h = refl
front_of_line (f ∷ fs) [] line lines is h = absurd (cc is)
front_of_line (f ∷ fs) (b ∷ bs) line lines is h =
    front_by (eqb b 10) (lines_of bs) f b fs bs line lines refl is h (λ x xs. front_of_line fs bs x xs)
