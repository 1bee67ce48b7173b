-- The forms that are found and those that words have.
use Rattle.std.proofs.Common.{◌≡◌, ◌⊎◌, inl, inr, Bool, true, false, cond, List, [], ◌∷◌, ℕ, Option, Some, None, refl, sym, subst, codes, ◌↔◌}
use Rattle.std.specs.Str.{bytes_eq}
use Rattle.std.proofs.lemmas.Slice.Eq.{bytes_eq-Decides}
use Rattle.session_lines.specs.Forms.{Form, with_none, with_one, with_two, driver_form, commit_form, pick_form, start_form, caller_form, of_caller, of_driver, form_of}
use Rattle.session_lines.specs.Forms as form
use Rattle.session_script.specs.Table.{IsForm}
use Rattle.session_script.specs.Table as is

-- a choice that gave a form
chosen : (b : Bool) (x found : Form) (rest : Option Form) → cond b (Some x) rest ≡ Some found → ((b ≡ true) × (x ≡ found)) ⊎ ((b ≡ false) × (rest ≡ Some found))
chosen true x found rest h = inl (refl, (let e : x ≡ found = cc in e))
chosen false x found rest h = inr (refl, h)

-- the same words with one that is equal
place : (make : List ℕ → List (List ℕ)) (verb text : List ℕ) (x found : Form) → IsForm (make text) x → bytes_eq verb text ≡ true → x ≡ found → IsForm (make verb) found
place make verb text x found h same e =
    let verb_is : verb ≡ text = (bytes_eq-Decides verb text).0 same in
    subst (λ f. IsForm (make verb) f) e (subst (λ v. IsForm (make v) x) (sym verb_is) h)

none_is : (verb : List ℕ) (found : Form) → with_none verb ≡ Some found → IsForm (codes "d" ∷ verb ∷ []) found
none_is verb found h = by_verb (chosen (bytes_eq verb (codes "sweep")) form.sweep found None h)
  where
    by_verb : ((bytes_eq verb (codes "sweep") ≡ true) × (form.sweep ≡ found)) ⊎ ((bytes_eq verb (codes "sweep") ≡ false) × (None ≡ Some found)) → IsForm (codes "d" ∷ verb ∷ []) found
    by_verb (inl p) = place (λ v. codes "d" ∷ v ∷ []) verb (codes "sweep") form.sweep found is.sweep p.0 p.1
    by_verb (inr p) = let no = p.1 in cc

one_is : (verb word : List ℕ) (found : Form) → with_one verb word ≡ Some found → IsForm (codes "d" ∷ verb ∷ word ∷ []) found
one_is verb word found h = by_open (chosen (bytes_eq verb (codes "open")) (form.opened word) found _ h)
  where
    at : List ℕ → List (List ℕ)
    at v = codes "d" ∷ v ∷ word ∷ []

    by_time : ((bytes_eq verb (codes "time") ≡ true) × (form.moment word ≡ found)) ⊎ ((bytes_eq verb (codes "time") ≡ false) × (None ≡ Some found)) → IsForm (codes "d" ∷ verb ∷ word ∷ []) found
    by_time (inl p) = place at verb (codes "time") (form.moment word) found (is.moment word) p.0 p.1
    by_time (inr p) = let no = p.1 in cc

    by_lost : ((bytes_eq verb (codes "lost") ≡ true) × (form.lost word ≡ found)) ⊎ ((bytes_eq verb (codes "lost") ≡ false) × (cond (bytes_eq verb (codes "time")) (Some (form.moment word)) None ≡ Some found))
        → IsForm (codes "d" ∷ verb ∷ word ∷ []) found
    by_lost (inl p) = place at verb (codes "lost") (form.lost word) found (is.lost word) p.0 p.1
    by_lost (inr p) = by_time (chosen (bytes_eq verb (codes "time")) (form.moment word) found None p.1)

    by_open : ((bytes_eq verb (codes "open") ≡ true) × (form.opened word ≡ found)) ⊎ ((bytes_eq verb (codes "open") ≡ false) × (cond (bytes_eq verb (codes "lost")) (Some (form.lost word)) (cond (bytes_eq verb (codes "time")) (Some (form.moment word)) None) ≡ Some found))
        → IsForm (codes "d" ∷ verb ∷ word ∷ []) found
    by_open (inl p) = place at verb (codes "open") (form.opened word) found (is.opened word) p.0 p.1
    by_open (inr p) = by_lost (chosen (bytes_eq verb (codes "lost")) (form.lost word) found _ p.1)

two_is : (verb first second : List ℕ) (found : Form) → with_two verb first second ≡ Some found → IsForm (codes "d" ∷ verb ∷ first ∷ second ∷ []) found
two_is verb first second found h = by_data (chosen (bytes_eq verb (codes "data")) (form.bytes first second) found _ h)
  where
    at : List ℕ → List (List ℕ)
    at v = codes "d" ∷ v ∷ first ∷ second ∷ []

    by_endpoint : ((bytes_eq verb (codes "endpoint") ≡ true) × (form.endpoint first second ≡ found)) ⊎ ((bytes_eq verb (codes "endpoint") ≡ false) × (None ≡ Some found))
        → IsForm (codes "d" ∷ verb ∷ first ∷ second ∷ []) found
    by_endpoint (inl p) = place at verb (codes "endpoint") (form.endpoint first second) found (is.endpoint first second) p.0 p.1
    by_endpoint (inr p) = let no = p.1 in cc

    by_data : ((bytes_eq verb (codes "data") ≡ true) × (form.bytes first second ≡ found)) ⊎ ((bytes_eq verb (codes "data") ≡ false) × (cond (bytes_eq verb (codes "endpoint")) (Some (form.endpoint first second)) None ≡ Some found))
        → IsForm (codes "d" ∷ verb ∷ first ∷ second ∷ []) found
    by_data (inl p) = place at verb (codes "data") (form.bytes first second) found (is.bytes first second) p.0 p.1
    by_data (inr p) = by_endpoint (chosen (bytes_eq verb (codes "endpoint")) (form.endpoint first second) found None p.1)

driver_is : (words : List (List ℕ)) (found : Form) → of_driver words ≡ Some found → IsForm (codes "d" ∷ words) found
unfolding driver_form
driver_is [] found h = cc
driver_is (verb ∷ []) found h = none_is verb found h
driver_is (verb ∷ word ∷ []) found h = one_is verb word found h
driver_is (verb ∷ first ∷ second ∷ []) found h = two_is verb first second found h
driver_is (verb ∷ first ∷ second ∷ third ∷ more) found h = cc

caller_is_by : (make : List ℕ → List (List ℕ)) (verb text : List ℕ) (x found : Form) → IsForm (make text) x → cond (bytes_eq verb text) (Some x) None ≡ Some found → IsForm (make verb) found
caller_is_by make verb text x found shape h = by_verb (chosen (bytes_eq verb text) x found None h)
  where
    by_verb : ((bytes_eq verb text ≡ true) × (x ≡ found)) ⊎ ((bytes_eq verb text ≡ false) × (None ≡ Some found)) → IsForm (make verb) found
    by_verb (inl p) = place make verb text x found shape p.0 p.1
    by_verb (inr p) = let no = p.1 in cc

caller_is : (words : List (List ℕ)) (found : Form) → of_caller words ≡ Some found → IsForm (codes "c" ∷ words) found
unfolding caller_form
caller_is [] found h = cc
caller_is (caller ∷ []) found h = cc
caller_is (caller ∷ verb ∷ []) found h = cc
caller_is (caller ∷ verb ∷ call ∷ []) found h = caller_is_by (λ v. codes "c" ∷ caller ∷ v ∷ call ∷ []) verb (codes "commit") (form.commit caller call) found (is.commit caller call) h
caller_is (caller ∷ verb ∷ call ∷ word ∷ []) found h =
    caller_is_by (λ v. codes "c" ∷ caller ∷ v ∷ call ∷ word ∷ []) verb (codes "pick") (form.pick caller call word) found (is.pick caller call word) h
caller_is (caller ∷ verb ∷ call ∷ word ∷ path ∷ fields) found h =
    caller_is_by (λ v. codes "c" ∷ caller ∷ v ∷ call ∷ word ∷ path ∷ fields) verb (codes "start") (form.start caller call word path fields) found (is.start caller call word path fields) h

by_actor : (actor : List ℕ) (words : List (List ℕ)) (found : Form) (d c : Bool) → bytes_eq actor (codes "d") ≡ d → bytes_eq actor (codes "c") ≡ c
    → cond d (of_driver words) (cond c (of_caller words) None) ≡ Some found → IsForm (actor ∷ words) found
by_actor actor words found true c d_is c_is h =
    subst (λ a. IsForm (a ∷ words) found) (sym ((bytes_eq-Decides actor (codes "d")).0 d_is)) (driver_is words found h)
by_actor actor words found false true d_is c_is h =
    subst (λ a. IsForm (a ∷ words) found) (sym ((bytes_eq-Decides actor (codes "c")).0 c_is)) (caller_is words found h)
by_actor actor words found false false d_is c_is h = cc

is_form : (words : List (List ℕ)) (found : Form) → form_of words ≡ Some found → IsForm words found
unfolding form_of
is_form [] found h = cc
is_form (actor ∷ words) found h = by_actor actor words found (bytes_eq actor (codes "d")) (bytes_eq actor (codes "c")) refl refl h

has_form : (words : List (List ℕ)) (found : Form) → IsForm words found → form_of words ≡ Some found
unfolding form_of driver_form caller_form
has_form _ _ (is.opened authority) = refl
has_form _ _ (is.bytes authority digits) = refl
has_form _ _ (is.lost authority) = refl
has_form _ _ (is.moment time) = refl
has_form _ _ (is.endpoint address state) = refl
has_form _ _ is.sweep = refl
has_form _ _ (is.start caller call word path fields) = refl
has_form _ _ (is.pick caller call word) = refl
has_form _ _ (is.commit caller call) = refl

pub forms_are_listed : (words : List (List ℕ)) (found : Form) → (form_of words ≡ Some found) ↔ IsForm words found
forms_are_listed words found = (is_form words found, has_form words found)
