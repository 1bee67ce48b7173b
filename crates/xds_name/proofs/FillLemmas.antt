-- Templates with a name in place of each `%s`.
use Rattle.std.proofs.Common.{◌≡◌, ◌≢◌, ◌<◌, ◌≤◌, ◌+◌, ℕ, zero, suc, List, [], ◌∷◌, ◌++◌, length, take, drop, Bool, true, false, ◌&&◌, eqb, Bor, Result, Ok, Err, ◌⊎◌, inl, inr, refl, sym, ap, ◌∙◌, arith, eqb-true, length-drop}
use Rattle.std.specs.Prelude.{IfOk, String, string_bytes}
use Rattle.std.specs.declared.alloc.Global.{Global}
use Rattle.std.specs.Char.{encode_utf8}
use Rattle.std.specs.Str.Pattern.{FindsText, LacksTextAt}
use Rattle.std.specs.Str.Replace.{ReplacesMatches}
use Rattle.xds_name.specs.Targets.{filled}

-- `%s`
abbrev mark : List ℕ
mark = 37 ∷ 115 ∷ []

is_mark : (a b : Bool) (x y : ℕ) (rest : List ℕ) → eqb x 37 ≡ a → eqb y 115 ≡ b → (a && b) ≡ true → x ∷ y ∷ rest ≡ mark ++ rest
is_mark true true x y rest one two e = ap (λ z. z ∷ y ∷ rest) (eqb-true x 37 one) ∙ ap (λ z. 37 ∷ z ∷ rest) (eqb-true y 115 two)
is_mark true false x y rest one two e = absurd (cc)
is_mark false b x y rest one two e = absurd (cc)

-- a text whose first two bytes aren't the mark
not_mark : (t : Bool) (x y : ℕ) (rest : List ℕ) → (eqb x 37 && eqb y 115) ≡ t → ((more : List ℕ) → x ∷ y ∷ rest ≢ mark ++ more) → t ≡ false
not_mark true x y rest is lacks = absurd (lacks rest (is_mark (eqb x 37) (eqb y 115) x y rest refl refl is))
not_mark false x y rest is lacks = refl

pub filled_none : (name text : List ℕ) → ((i : ℕ) → i ≤ length text → LacksTextAt mark text i) → filled name text ≡ text
unfolding filled
filled_none name [] lacks = refl
filled_none name (b ∷ []) lacks = refl
filled_none name (b ∷ c ∷ rest) lacks =
    rw (not_mark (eqb b 37 && eqb c 115) b c rest refl (lacks 0 (omega arith)))
    (ap (λ xs. b ∷ xs) (filled_none name (c ∷ rest) (λ i within. lacks (suc i) (omega arith))))

-- what is left of a text of at most one byte isn't the mark
empty_front : (left rest : List ℕ) → left ≡ mark ++ rest → length left ≤ 1 → ⊥
empty_front left rest is few = let same = ap length is in omega arith

pub filled_at : (a : ℕ) (name text rest : List ℕ) → ((i : ℕ) → i < a → LacksTextAt mark text i) → drop a text ≡ mark ++ rest → filled name text ≡ take a text ++ (name ++ filled name rest)
unfolding filled
filled_at zero name text rest lacks is = rw is refl
filled_at (suc a) name [] rest lacks is = absurd (empty_front [] rest is (omega arith))
filled_at (suc a) name (b ∷ []) rest lacks is = absurd (empty_front _ _ is (let few = length-drop (suc a) (b ∷ []) in omega arith))
filled_at (suc a) name (b ∷ c ∷ more) rest lacks is =
    rw (not_mark (eqb b 37 && eqb c 115) b c more refl (lacks 0 (omega arith)))
    (ap (λ xs. b ∷ xs) (filled_at a name (c ∷ more) rest (λ i lt. lacks (suc i) (omega arith)) is))

-- what follows a match, which isn't empty
continued : {On : List ℕ → List ℕ → Type 0} (name text rest : List ℕ) (a b : ℕ) → b ≡ a + 2
    → ((a < b) × On (drop b text) rest) ⊎ ((a ≡ b) × (((length (drop b text) ≡ 0) × (rest ≡ [])) ⊎ ((c : ℕ) × (t : List ℕ) × (more : List ℕ) × (drop b text ≡ encode_utf8 c ++ t) × On t more × (rest ≡ encode_utf8 c ++ more))))
    → (On (drop b text) rest → rest ≡ filled name (drop b text)) → rest ≡ filled name (drop b text)
continued name text rest a b ends (inl h) more = more h.1
continued name text rest a b ends (inr h) more = absurd (let same = h.0 in omega arith)

-- what `replace` gives
pub filled_by_replace : (n : ℕ) (pattern : Bor (List ℕ)) (name text out : List ℕ) → pattern.now ≡ mark
    → ReplacesMatches (λ p. FindsText p.now) (λ p q. q.now ≡ p.now) name n pattern text out → out ≡ filled name text
filled_by_replace zero pattern name text out is h =
    h.1 ∙ sym (filled_none name text (λ i within rest e. h.0 i within rest (e ∙ ap (λ p. p ++ rest) (sym is))))
filled_by_replace (suc n) pattern name text out is h =
    let a = h.0 in
    let b = h.1 in
    let found = h.4.1 in
    let at = found.split ∙ ap (λ p. p ++ drop b text) is in
    let ends = found.ends ∙ ap (λ p. a + length p) is in
    let rest = continued {On = ReplacesMatches (λ p. FindsText p.now) (λ p q. q.now ≡ p.now) name n h.2} name text h.3 a b ends h.6
    (filled_by_replace n h.2 name (drop b text) h.3 (h.5 ∙ is)) in
    h.7 ∙ ap (λ r. take a text ++ (name ++ r)) rest
    ∙ sym (filled_at a name text (drop b text) (λ i lt more e. h.4.0 i lt more (e ∙ ap (λ p. p ++ more) (sym is))) at)

pub filled_ok : {E : Type 0} (r : Result (String Global) E) (pattern : Bor (List ℕ)) (name text : List ℕ) → pattern.now ≡ mark
    → IfOk r (λ s. (n : ℕ) × ReplacesMatches (λ p. FindsText p.now) (λ p q. q.now ≡ p.now) name n pattern text (string_bytes s))
    → IfOk r (λ s. string_bytes s ≡ filled name text)
filled_ok (Ok s) pattern name text is h = filled_by_replace h.0 pattern name text (string_bytes s) is h.1
filled_ok (Err e) pattern name text is h = tt
