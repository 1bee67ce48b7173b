-- The first word of a line.
use Rattle.std.proofs.Common.{◌≡◌, ◌≤◌, ◌<◌, ℕ, Bool, true, false, eqb, List, [], ◌∷◌, length, Option, Some, None, refl, sym, ap, ◌∙◌, arith, cond, ltb, inl, inr, ◌⊎◌}
use Rattle.std.specs.List.{position_or_len}
use Rattle.std.proofs.lemmas.Bool.{cases_lt, lt-ltb}
use Rattle.std.proofs.lemmas.List.Splits.{slice_split_first, slice_split_none}
use Rattle.std.proofs.lemmas.List.Elements.{All-from_get_or}
use Rattle.std.proofs.lemmas.List.Sums.{fails_before_first}
use Rattle.std.proofs.lemmas.Bool.Decides.{nat_tests}
use Rattle.xds_name.specs.NameTexts.{cut_at}
use Rattle.session_lines.specs.Lines.{words_of, is_gate, is_driver, has_driver, is_driver_line}
use Rattle.session_lines.proofs.LineLemmas.{front_of, back_of}

-- the first word
pub word_cut : (line word rest : List ℕ) → Some (word, rest) ≡ cut_at 32 line → words_of line ≡ word ∷ words_of rest
word_cut line word rest is = by_place (cases_lt (position_or_len (λ b. eqb b 32) line) (length line))
  where
    by_place : (position_or_len (λ b. eqb b 32) line < length line) ⊎ (length line ≤ position_or_len (λ b. eqb b 32) line) → words_of line ≡ word ∷ words_of rest
    by_place (inl lt) =
        let cut = rw (lt-ltb (position_or_len (λ b. eqb b 32) line) (length line) lt) at is in
        slice_split_first (λ b. eqb b 32) line 0 lt ∙ ap (λ (o : Option (List ℕ × List ℕ)). front_of o ∷ words_of (back_of o)) (sym cut)
    by_place (inr le) =
        let none : ltb (position_or_len (λ b. eqb b 32) line) (length line) ≡ false = grind (arith, nat_tests) in
        let cut = rw none at is in
        cc

pub word_last : (line : List ℕ) → None ≡ cut_at 32 line → words_of line ≡ line ∷ []
word_last line is = by_place (cases_lt (position_or_len (λ b. eqb b 32) line) (length line))
  where
    by_place : (position_or_len (λ b. eqb b 32) line < length line) ⊎ (length line ≤ position_or_len (λ b. eqb b 32) line) → words_of line ≡ line ∷ []
    by_place (inl lt) = let cut = rw (lt-ltb (position_or_len (λ b. eqb b 32) line) (length line) lt) at is in cc
    by_place (inr le) =
        slice_split_none (λ b. eqb b 32) line
        (All-from_get_or (λ b. eqb b 32 ≡ false) line 0 (λ k lt. fails_before_first (λ b. eqb b 32) line k 0 (omega arith)))

driver_by : (word : List ℕ) (words : List (List ℕ)) (gate : Bool) → is_gate word ≡ gate → has_driver (word ∷ words) ≡ cond gate (has_driver words) (is_driver word)
driver_by word words true e = rw e refl
driver_by word words false e = rw e refl

-- a word that is passed over, one that decides, and the last one
pub driver_past : (line word rest : List ℕ) → Some (word, rest) ≡ cut_at 32 line → is_gate word ≡ true → is_driver_line line ≡ is_driver_line rest
unfolding is_driver_line
driver_past line word rest is gate = ap has_driver (word_cut line word rest is) ∙ driver_by word (words_of rest) true gate

pub driver_here : (line word rest : List ℕ) → Some (word, rest) ≡ cut_at 32 line → is_gate word ≡ false → is_driver word ≡ is_driver_line line
unfolding is_driver_line
driver_here line word rest is gate = sym (ap has_driver (word_cut line word rest is) ∙ driver_by word (words_of rest) false gate)

pub driver_last : (line : List ℕ) (gate : Bool) → None ≡ cut_at 32 line → is_gate line ≡ gate → cond gate false (is_driver line) ≡ is_driver_line line
unfolding is_driver_line
driver_last line true is e = sym (ap has_driver (word_last line is) ∙ driver_by line [] true e)
driver_last line false is e = sym (ap has_driver (word_last line is) ∙ driver_by line [] false e)
