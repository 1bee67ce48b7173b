-- Texts of whole lines.
use Rattle.std.proofs.Common.{◌≡◌, ℕ, ◌+◌, ◌<◌, List, [], ◌∷◌, ◌++◌, length, Bool, true, false, cond, eqb, refl, sym, ap, subst, ◌∙◌, append_assoc, arith}
use Rattle.std.specs.List.{onto_first}
use Rattle.std.proofs.lemmas.Bool.{cond-false, cond-true}
use Rattle.std.proofs.lemmas.List.{length-append}
use Rattle.session_lines.specs.Lines.{lines_of}

-- how many line feeds a text has
abbrev pub feeds : List ℕ → ℕ
feeds [] = 0
feeds (b ∷ bs) = cond (eqb b 10) (feeds bs + 1) (feeds bs)

more_feeds : (t : Bool) (i j : ℕ) → cond t (i + j + 1) (i + j) ≡ cond t (i + 1) i + j
more_feeds true i j = omega arith
more_feeds false i j = refl

pub feeds_append : (x y : List ℕ) → feeds (x ++ y) ≡ feeds x + feeds y
feeds_append [] y = let same : feeds y ≡ 0 + feeds y = omega arith in same
feeds_append (b ∷ x) y = rw (feeds_append x y) (more_feeds (eqb b 10) (feeds x) (feeds y))

-- ---- texts of whole lines

-- each line ends with a line feed, so that the lines behind are those of the text behind
pub record IsWhole (text : List ℕ) : Type 0 where
  pub parts : (rest : List ℕ) → lines_of (text ++ rest) ≡ lines_of text ++ lines_of rest
  pub counted : length (lines_of text) ≡ feeds text

pub whole_nothing : IsWhole []
unfolding lines_of
whole_nothing = record { parts = λ rest. refl; counted = refl }

pub whole_both : (x y : List ℕ) → IsWhole x → IsWhole y → IsWhole (x ++ y)
whole_both x y h k = record {
  parts = λ rest.
      ap lines_of (append_assoc x y rest) ∙ (h.parts (y ++ rest)
      ∙ (ap (λ (lines : List (List ℕ)). lines_of x ++ lines) (k.parts rest)
      ∙ (sym (append_assoc (lines_of x) (lines_of y) (lines_of rest)) ∙ ap (λ (lines : List (List ℕ)). lines ++ lines_of rest) (sym (h.parts y)))));
  counted =
      let both : length (lines_of (x ++ y)) ≡ length (lines_of x) + length (lines_of y) = ap length (h.parts y) ∙ length-append (lines_of x) (lines_of y) in
      let all : feeds (x ++ y) ≡ feeds x + feeds y = feeds_append x y in
      let one : length (lines_of x) ≡ feeds x = h.counted in
      let other : length (lines_of y) ≡ feeds y = k.counted in
      omega (arith, both, all, one, other);
}

-- a line feed before a text
feed_line : (b : ℕ) (text : List ℕ) → eqb b 10 ≡ true → lines_of (b ∷ text) ≡ [] ∷ lines_of text
unfolding lines_of
feed_line b text is = cond-true _ _ _ is

whole_feed : (b : ℕ) (text : List ℕ) → eqb b 10 ≡ true → IsWhole text → IsWhole (b ∷ text)
whole_feed b text is h = record {
  parts = λ rest.
      feed_line b (text ++ rest) is
      ∙ (ap (λ (lines : List (List ℕ)). [] ∷ lines) (h.parts rest) ∙ ap (λ (lines : List (List ℕ)). lines ++ lines_of rest) (sym (feed_line b text is)));
  counted =
      let lines : length (lines_of (b ∷ text)) ≡ length (lines_of text) + 1 = ap length (feed_line b text is) ∙ omega arith in
      let one : feeds (b ∷ text) ≡ feeds text + 1 = cond-true _ _ _ is in
      let more : length (lines_of text) ≡ feeds text = h.counted in
      omega (arith, lines, one, more);
}

-- any other byte before a text with lines
pub other_line : (b : ℕ) (text : List ℕ) → eqb b 10 ≡ false → lines_of (b ∷ text) ≡ onto_first b (lines_of text)
unfolding lines_of
other_line b text is = cond-false _ _ _ is

onto_append : (b : ℕ) (x y : List (List ℕ)) → 0 < length x → onto_first b (x ++ y) ≡ onto_first b x ++ y
onto_append b [] y some = absurd (omega (arith, some))
onto_append b (line ∷ x) y some = refl

onto_length : (b : ℕ) (x : List (List ℕ)) → 0 < length x → length (onto_first b x) ≡ length x
onto_length b [] some = absurd (omega (arith, some))
onto_length b (line ∷ x) some = refl

whole_byte : (b : ℕ) (text : List ℕ) → eqb b 10 ≡ false → 0 < feeds text → IsWhole text → IsWhole (b ∷ text)
whole_byte b text is some h =
    let more : length (lines_of text) ≡ feeds text = h.counted in
    let lines : 0 < length (lines_of text) = omega (arith, some, more) in
    record {
      parts = λ rest.
          other_line b (text ++ rest) is
          ∙ (ap (onto_first b) (h.parts rest)
          ∙ (onto_append b (lines_of text) (lines_of rest) lines ∙ ap (λ (all : List (List ℕ)). all ++ lines_of rest) (sym (other_line b text is))));
      counted = ap length (other_line b text is) ∙ (onto_length b (lines_of text) lines ∙ (more ∙ sym (cond-false _ _ _ is)));
    }

-- ---- texts that end with a line feed

pub record EndsLine (text : List ℕ) : Type 0 where
  pub front : List ℕ
  pub is : text ≡ front ++ 10 ∷ []

pub ends : (front : List ℕ) → EndsLine (front ++ 10 ∷ [])
ends front = record { front = front; is = refl }

pub ends_behind : (x y : List ℕ) → EndsLine y → EndsLine (x ++ y)
ends_behind x y h = record {
  front = x ++ h.front;
  is = ap (λ (text : List ℕ). x ++ text) h.is ∙ sym (append_assoc x h.front (10 ∷ []));
}

-- a byte before a text of whole lines; nothing would lack the line feed
pub whole_with : (t : Bool) (b : ℕ) (text : List ℕ) → eqb b 10 ≡ t → (t ≡ false → 0 < feeds text) → IsWhole text → IsWhole (b ∷ text)
whole_with true b text is some h = whole_feed b text is h
whole_with false b text is some h = whole_byte b text is (some refl) h

some_feeds : (text : List ℕ) → 0 < feeds (text ++ 10 ∷ [])
some_feeds text = let all : feeds (text ++ 10 ∷ []) ≡ feeds text + 1 = feeds_append text (10 ∷ []) in omega (arith, all)

whole_line : (text : List ℕ) → IsWhole (text ++ 10 ∷ [])
whole_line [] = whole_feed 10 [] refl whole_nothing
whole_line (b ∷ bs) = whole_with (eqb b 10) b (bs ++ 10 ∷ []) refl (λ other. some_feeds bs) (whole_line bs)

pub ends_whole : (text : List ℕ) → EndsLine text → IsWhole text
ends_whole text h = subst IsWhole (sym h.is) (whole_line h.front)
