-- Which texts are targets.
use Rattle.std.proofs.Common.{◌≡◌, ◌≢◌, ℕ, List, [], ◌∷◌, ◌++◌, length, true, Option, Some, None, refl, sym, ap, ◌∙◌, subst, arith}
use Rattle.std.specs.Prelude.{codes, is_some, option_and_then, unwrap_or}
use Rattle.xds_name.proofs.CutLemmas.{Cuts, cuts_as, cut_joined, after_is}
use Rattle.xds_name.specs.Targets.{IsTarget, plain, rooted, named, target_of, target_after, target_parts}
use Rattle.xds_name.specs.NameTexts.{after, cut_at, lacks}

-- ---- what has a form is found

some_parts : (name : List ℕ) → name ≢ [] → target_parts ([], name) ≡ Some (None, name)
some_parts [] some = absurd (some refl)
some_parts (b ∷ bs) some = refl

both_parts : (authority name : List ℕ) → authority ≢ [] → name ≢ [] → target_parts (authority, name) ≡ Some (Some authority, name)
both_parts [] name there some = absurd (there refl)
both_parts (c ∷ cs) [] there some = absurd (some refl)
both_parts (c ∷ cs) (b ∷ bs) there some = refl

found_from : (rest : List ℕ) → target_of (codes "xds:" ++ rest) ≡ target_after rest (after (codes "//") rest)
unfolding target_of
found_from rest = refl

pub target_found : {text : List ℕ} {authority : Option (List ℕ)} {name : List ℕ} → IsTarget text authority name → target_of text ≡ Some (authority, name)
target_found (plain name some single) = found_from name ∙ ap (target_after name) single ∙ some_parts name some
target_found (rooted name some) = found_from (codes "///" ++ name) ∙ ap (option_and_then target_parts) (cut_joined 47 [] name refl) ∙ some_parts name some
target_found (named authority name some there clean) =
    found_from (codes "//" ++ authority ++ 47 ∷ name) ∙ ap (option_and_then target_parts) (cut_joined 47 authority name clean) ∙ both_parts authority name there some

-- ---- what is found has a form

abbrev Target : Type 0
Target = Option (List ℕ) × List ℕ

given : (x y : Target) → Some x ≡ Some y → x ≡ y
given x y e = ap (λ o. unwrap_or o x) e

abbrev Has : List ℕ → Target → Type 0
Has text p = IsTarget text p.0 p.1

filled_list : (b : ℕ) (bs : List ℕ) → b ∷ bs ≢ []
filled_list b bs e = absurd (let same = ap length e in omega arith)

-- without an authority
single : (rest name : List ℕ) (p : Target) → rest ≡ name → after (codes "//") rest ≡ None → target_parts ([], name) ≡ Some p → Has (codes "xds:" ++ rest) p
single rest [] p is none e = absurd (let found = ap is_some e in cc)
single rest (b ∷ bs) p is none e =
    subst (Has (codes "xds:" ++ rest)) (given (None, b ∷ bs) p e)
    (subst (λ text. IsTarget (codes "xds:" ++ text) None (b ∷ bs)) (sym is) (plain (b ∷ bs) (filled_list b bs) (subst (λ text. after (codes "//") text ≡ None) is none)))

double : (authority name : List ℕ) (p : Target) → lacks 47 authority ≡ true → target_parts (authority, name) ≡ Some p
    → Has (codes "xds://" ++ authority ++ 47 ∷ name) p
double [] [] p clean e = absurd (let found = ap is_some e in cc)
double [] (b ∷ bs) p clean e = subst (Has (codes "xds:///" ++ b ∷ bs)) (given (None, b ∷ bs) p e) (rooted (b ∷ bs) (filled_list b bs))
double (c ∷ cs) [] p clean e = absurd (let found = ap is_some e in cc)
double (c ∷ cs) (b ∷ bs) p clean e =
    subst (Has (codes "xds://" ++ (c ∷ cs) ++ 47 ∷ b ∷ bs)) (given (Some (c ∷ cs), b ∷ bs) p e)
    (named (c ∷ cs) (b ∷ bs) (filled_list b bs) (filled_list c cs) clean)

cut_form : (more : List ℕ) (found : Option (List ℕ × List ℕ)) (p : Target) → Cuts 47 more found → option_and_then target_parts found ≡ Some p → Has (codes "xds://" ++ more) p
cut_form more None p cuts e = absurd (let found = ap is_some e in cc)
cut_form more (Some q) p cuts e = subst (λ text. Has (codes "xds://" ++ text) p) (sym cuts.0) (double q.0 q.1 p cuts.1 e)

rest_form : (rest : List ℕ) (found : Option (List ℕ)) (p : Target) → after (codes "//") rest ≡ found → target_after rest found ≡ Some p → Has (codes "xds:" ++ rest) p
rest_form rest None p is e = single rest rest p refl is e
rest_form rest (Some more) p is e =
    subst (λ text. Has (codes "xds:" ++ text) p) (sym (after_is (codes "//") rest more is)) (cut_form more (cut_at 47 more) p (cuts_as 47 more (cut_at 47 more) refl) e)

text_form : (text : List ℕ) (found : Option (List ℕ)) (p : Target) → after (codes "xds:") text ≡ found
    → option_and_then (λ rest. target_after rest (after (codes "//") rest)) found ≡ Some p → Has text p
text_form text None p is e = absurd (let found = ap is_some e in cc)
text_form text (Some rest) p is e =
    subst (λ t. Has t p) (sym (after_is (codes "xds:") text rest is)) (rest_form rest (after (codes "//") rest) p refl e)

pub target_has_form : (text : List ℕ) (authority : Option (List ℕ)) (name : List ℕ) → target_of text ≡ Some (authority, name) → IsTarget text authority name
unfolding target_of
target_has_form text authority name e = text_form text (after (codes "xds:") text) (authority, name) refl e

pub no_target : (text : List ℕ) → None ≡ target_of text → (authority : Option (List ℕ)) (name : List ℕ) → ¬ IsTarget text authority name
no_target text none authority name h = let found = ap is_some (none ∙ target_found h) in cc
