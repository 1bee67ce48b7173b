-- The first line of bytes.
use Rattle.std.proofs.Common.{◌≡◌, ◌≤◌, ◌<◌, ℕ, suc, ◌+◌, Bool, true, false, eqb, List, [], ◌∷◌, length, take, drop, Option, Some, None, refl, sym, ap, ◌∙◌, arith, ltb, inl, inr, ◌⊎◌}
use Rattle.std.specs.List.{position_or_len}
use Rattle.std.proofs.lemmas.Bool.{cases_lt, lt-ltb}
use Rattle.std.proofs.lemmas.Bool.Decides.{nat_tests}
use Rattle.xds_name.specs.NameTexts.{cut_at}
use Rattle.session_lines.specs.Lines.{lines_of}

-- the place of the first line feed, or the length
abbrev feed : List ℕ → ℕ
feed bytes = position_or_len (λ b. eqb b 10) bytes

abbrev CutsAtFeed : List ℕ → Type 0
CutsAtFeed bytes = feed bytes < length bytes → lines_of bytes ≡ take (feed bytes) bytes ∷ lines_of (drop (feed bytes + 1) bytes)

cuts_by : (b : ℕ) (bs : List ℕ) (is : Bool) → eqb b 10 ≡ is → CutsAtFeed bs → CutsAtFeed (b ∷ bs)
unfolding lines_of
cuts_by b bs true e rest lt = rw e refl
cuts_by b bs false e rest lt =
    let one : 1 + feed bs ≡ suc (feed bs) = omega arith in
    let two : suc (feed bs) + 1 ≡ suc (feed bs + 1) = omega arith in
    let less = rw e at lt in
    rw (e, one, two, rest (omega arith)) refl

cuts : (bytes : List ℕ) → CutsAtFeed bytes
cuts [] lt = absurd (omega arith)
cuts (b ∷ bs) lt = cuts_by b bs (eqb b 10) refl (cuts bs) lt

abbrev IsOneLine : List ℕ → Type 0
IsOneLine bytes = length bytes ≤ feed bytes → 0 < length bytes → lines_of bytes ≡ bytes ∷ lines_of []

one_line_by : (b : ℕ) (bs : List ℕ) (is : Bool) → eqb b 10 ≡ is → IsOneLine bs → IsOneLine (b ∷ bs)
unfolding lines_of
one_line_by b bs true e rest le some = absurd (let more = rw e at le in omega arith)
one_line_by b [] false e rest le some = rw e refl
one_line_by b (c ∷ cs) false e rest le some =
    let more = rw e at le in
    rw (e, rest (omega arith) (omega arith)) refl

one_line : (bytes : List ℕ) → IsOneLine bytes
one_line [] le some = absurd (omega arith)
one_line (b ∷ bs) le some = one_line_by b bs (eqb b 10) refl (one_line bs) le some

-- the two parts of a cut
abbrev pub front_of : Option (List ℕ × List ℕ) → List ℕ
front_of None = []
front_of (Some p) = p.0

abbrev pub back_of : Option (List ℕ × List ℕ) → List ℕ
back_of None = []
back_of (Some p) = p.1

-- the same, as the code cuts the bytes
pub line_cut : (bytes line rest : List ℕ) → Some (line, rest) ≡ cut_at 10 bytes → lines_of bytes ≡ line ∷ lines_of rest
line_cut bytes line rest is = by_place (cases_lt (feed bytes) (length bytes))
  where
    by_place : (feed bytes < length bytes) ⊎ (length bytes ≤ feed bytes) → lines_of bytes ≡ line ∷ lines_of rest
    by_place (inl lt) =
        let cut = rw (lt-ltb (feed bytes) (length bytes) lt) at is in
        cuts bytes lt ∙ ap (λ (o : Option (List ℕ × List ℕ)). front_of o ∷ lines_of (back_of o)) (sym cut)
    by_place (inr le) =
        let none : ltb (feed bytes) (length bytes) ≡ false = grind (arith, nat_tests) in
        let cut = rw none at is in
        cc

pub line_last : (bytes : List ℕ) → eqb (length bytes) 0 ≡ false → None ≡ cut_at 10 bytes → lines_of bytes ≡ bytes ∷ lines_of []
line_last bytes some is = by_place (cases_lt (feed bytes) (length bytes))
  where
    by_place : (feed bytes < length bytes) ⊎ (length bytes ≤ feed bytes) → lines_of bytes ≡ bytes ∷ lines_of []
    by_place (inl lt) = let cut = rw (lt-ltb (feed bytes) (length bytes) lt) at is in cc
    by_place (inr le) = one_line bytes le (grind (arith, nat_tests))
