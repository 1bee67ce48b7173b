-- What a text is before and after its first byte of a kind, and what stands after a front.
use native.Mathlib.Numerals.{unary_clauses}
use Rattle.std.proofs.Common.{◌≡◌, ◌+◌, ℕ, suc, List, [], ◌∷◌, ◌++◌, length, take, drop, Bool, true, false, cond, eqb, ltb, Option, Some, None, refl, sym, ap, ◌∙◌, arith, eqb-true}
use Rattle.std.proofs.lemmas.Bool.Decides.{nat_tests}
use Rattle.std.proofs.lemmas.Slice.Eq.{bytes_eq-Decides}
use Rattle.std.proofs.Math.Seq.{take-append_seam, drop-append_seam}
use Rattle.std.proofs.lemmas.List.{take-append-drop}
use Rattle.std.specs.List.{position_or_len}
use Rattle.std.specs.Prelude.{bytes_eq, option_map, is_some, unwrap_or}
use Rattle.xds_name.specs.NameTexts.{after, cut_at, lacks}

eqb_same : (n : ℕ) → eqb n n ≡ true
eqb_same n = grind (arith, nat_tests)

some_same : (x y : List ℕ) → Some x ≡ Some y → x ≡ y
some_same x y e = ap (λ o. unwrap_or o []) e

-- ---- the first byte of a text, and the rest

abbrev with_front : ℕ → Option (List ℕ × List ℕ) → Option (List ℕ × List ℕ)
with_front b found = option_map (λ p. (b ∷ p.0, p.1)) found

cut_found : (t : Bool) (b : ℕ) (bs : List ℕ) (n : ℕ) → ltb n (length bs) ≡ t
    → option_map (λ i. (take i (b ∷ bs), drop (i + 1) (b ∷ bs))) (cond (ltb (1 + n) (length (b ∷ bs))) (Some (1 + n)) None)
    ≡ with_front b (option_map (λ i. (take i bs, drop (i + 1) bs)) (cond (ltb n (length bs)) (Some n) None))
cut_found true b bs n is =
    let up : ltb (1 + n) (suc (length bs)) ≡ true = grind (arith, nat_tests) in
    let one : 1 + n ≡ suc n = omega arith in
    rw (up, is, one) (simp unary_clauses refl)
cut_found false b bs n is =
    let up : ltb (1 + n) (suc (length bs)) ≡ false = grind (arith, nat_tests) in
    rw (up, is) refl

cut_first : (b : ℕ) (bs : List ℕ)
    → option_map {T = ℕ} {U = List ℕ × List ℕ} (λ i. (take i (b ∷ bs), drop (i + 1) (b ∷ bs))) (cond (ltb 0 (suc (length bs))) (Some 0) None) ≡ Some ([], bs)
cut_first b bs = let up : ltb 0 (suc (length bs)) ≡ true = grind (arith, nat_tests) in rw up refl

cut_cons_at : (t : Bool) (byte b : ℕ) (bs : List ℕ) → eqb b byte ≡ t → cut_at byte (b ∷ bs) ≡ cond t (Some ([], bs)) (with_front b (cut_at byte bs))
cut_cons_at true byte b bs is = rw is (cut_first b bs)
cut_cons_at false byte b bs is = rw is (cut_found _ b bs (position_or_len (λ c. eqb c byte) bs) refl)

pub cut_cons : (byte b : ℕ) (bs : List ℕ) → cut_at byte (b ∷ bs) ≡ cond (eqb b byte) (Some ([], bs)) (with_front b (cut_at byte bs))
cut_cons byte b bs = cut_cons_at (eqb b byte) byte b bs refl

-- ---- the two parts

abbrev pub Cuts : ℕ → List ℕ → Option (List ℕ × List ℕ) → Type 0
Cuts byte text None = lacks byte text ≡ true
Cuts byte text (Some p) = (text ≡ p.0 ++ byte ∷ p.1) × (lacks byte p.0 ≡ true)

lacks_more : (t : Bool) (byte b : ℕ) (bs : List ℕ) → eqb b byte ≡ t → t ≡ false → lacks byte bs ≡ true → lacks byte (b ∷ bs) ≡ true
lacks_more true byte b bs is e more = absurd (cc)
lacks_more false byte b bs is e more = rw is more

cuts_later : (byte b : ℕ) (bs : List ℕ) (found : Option (List ℕ × List ℕ)) → eqb b byte ≡ false → Cuts byte bs found → Cuts byte (b ∷ bs) (with_front b found)
cuts_later byte b bs None is h = lacks_more false byte b bs is refl h
cuts_later byte b bs (Some p) is h = (ap (λ xs. b ∷ xs) h.0, lacks_more false byte b p.0 is refl h.1)

cuts_at : (t : Bool) (byte b : ℕ) (bs : List ℕ) (found : Option (List ℕ × List ℕ)) → eqb b byte ≡ t → Cuts byte bs found → Cuts byte (b ∷ bs) (cond t (Some ([], bs)) (with_front b found))
cuts_at true byte b bs found is h = (ap (λ x. x ∷ bs) (eqb-true b byte is), refl)
cuts_at false byte b bs found is h = cuts_later byte b bs found is h

-- what `cut_at` finds
pub cuts : (byte : ℕ) (text : List ℕ) → Cuts byte text (cut_at byte text)
cuts byte [] = refl
cuts byte (b ∷ bs) = rw (cut_cons byte b bs) (cuts_at (eqb b byte) byte b bs (cut_at byte bs) refl (cuts byte bs))

pub cuts_as : (byte : ℕ) (text : List ℕ) (found : Option (List ℕ × List ℕ)) → cut_at byte text ≡ found → Cuts byte text found
cuts_as byte text found is = rw (← is) (cuts byte text)

pub lacks_first : (t : Bool) (byte b : ℕ) (bs : List ℕ) → eqb b byte ≡ t → lacks byte (b ∷ bs) ≡ true → (t ≡ false) × (lacks byte bs ≡ true)
lacks_first true byte b bs is h = absurd (let no_byte : false ≡ true = rw is at h in cc)
lacks_first false byte b bs is h = (refl, rw is at h)

-- a text that is cut at its first such byte
pub cut_joined : (byte : ℕ) (front rest : List ℕ) → lacks byte front ≡ true → cut_at byte (front ++ byte ∷ rest) ≡ Some (front, rest)
cut_joined byte [] rest none = cut_cons byte byte rest ∙ rw (eqb_same byte) refl
cut_joined byte (b ∷ bs) rest none =
    let first = lacks_first (eqb b byte) byte b bs refl none in
    cut_cons byte b (bs ++ byte ∷ rest) ∙ rw (first.0) (ap (with_front b) (cut_joined byte bs rest first.1))

-- ---- what stands after a front

after_at : (t : Bool) (front text rest : List ℕ) → bytes_eq (take (length front) text) front ≡ t → cond t (Some (drop (length front) text)) None ≡ Some rest → text ≡ front ++ rest
after_at true front text rest is e =
    sym (take-append-drop (length front) text) ∙ ap (λ xs. xs ++ drop (length front) text) ((bytes_eq-Decides (take (length front) text) front).0 is)
    ∙ ap (λ xs. front ++ xs) (some_same (drop (length front) text) rest e)
after_at false front text rest is e = absurd (let none = ap is_some e in cc)

pub after_is : (front text rest : List ℕ) → after front text ≡ Some rest → text ≡ front ++ rest
after_is front text rest e = after_at (bytes_eq (take (length front) text) front) front text rest refl e

pub after_joined : (front rest : List ℕ) → after front (front ++ rest) ≡ Some rest
after_joined front rest =
    rw ((bytes_eq-Decides (take (length front) (front ++ rest)) front).1 (take-append_seam front rest)) (ap Some (drop-append_seam front rest))
