-- Which texts have the form of an `xdstp:` name.
use Rattle.std.proofs.Common.{◌≡◌, ℕ, List, ◌∷◌, ◌++◌, true, Option, Some, None, refl, ap, ◌∙◌, subst}
use Rattle.std.specs.Prelude.{codes, is_some, option_and_then, unwrap_or}
use Rattle.xds_name.proofs.CutLemmas.{Cuts, cuts_as, cut_joined, after_is, after_joined}
use Rattle.xds_name.specs.Names.{Parts, HasForm, head_of, with_authority, with_resource, parts_from, parts_of}
use Rattle.xds_name.specs.NameTexts.{after, cut_at, lacks}

given : (x y : Parts) → Some x ≡ Some y → x ≡ y
given x y e = ap (λ o. unwrap_or o x) e

-- ---- what has the form is found

from_path : (parts : Parts) (id : List ℕ) → lacks 47 parts.authority ≡ true → lacks 47 parts.resource ≡ true
    → parts_from (parts.authority ++ 47 ∷ (parts.resource ++ 47 ∷ id)) ≡ Some parts
from_path parts id authority resource =
    ap with_authority (cut_joined 47 parts.authority (parts.resource ++ 47 ∷ id) authority)
    ∙ ap (with_resource parts.authority) (cut_joined 47 parts.resource id resource)

pub name_found : (text : List ℕ) (parts : Parts) → HasForm text parts → parts_of text ≡ Some parts
unfolding parts_of
name_found text parts h =
    let path = parts.authority ++ 47 ∷ (parts.resource ++ 47 ∷ h.id) in
    ap (option_and_then parts_from) (ap (after (codes "xdstp://")) h.head ∙ after_joined (codes "xdstp://") path) ∙ from_path parts h.id h.authority h.resource

-- ---- what is found has the form

second_form : (text authority rest : List ℕ) (found : Option (List ℕ × List ℕ)) (parts : Parts) → head_of text ≡ codes "xdstp://" ++ (authority ++ 47 ∷ rest) → lacks 47 authority ≡ true
    → Cuts 47 rest found → with_resource authority found ≡ Some parts → HasForm text parts
second_form text authority rest None parts head clean cuts e = absurd (let found = ap is_some e in cc)
second_form text authority rest (Some q) parts head clean cuts e =
    subst (HasForm text) (given record { authority = authority; resource = q.0 } parts e)
    record { id = q.1; head = head ∙ ap (λ more. codes "xdstp://" ++ (authority ++ 47 ∷ more)) cuts.0; authority = clean; resource = cuts.1 }

first_form : (text path : List ℕ) (found : Option (List ℕ × List ℕ)) (parts : Parts) → head_of text ≡ codes "xdstp://" ++ path → Cuts 47 path found
    → with_authority found ≡ Some parts → HasForm text parts
first_form text path None parts head cuts e = absurd (let found = ap is_some e in cc)
first_form text path (Some p) parts head cuts e =
    second_form text p.0 p.1 (cut_at 47 p.1) parts (head ∙ ap (λ more. codes "xdstp://" ++ more) cuts.0) cuts.1 (cuts_as 47 p.1 (cut_at 47 p.1) refl) e

path_form : (text : List ℕ) (found : Option (List ℕ)) (parts : Parts) → after (codes "xdstp://") (head_of text) ≡ found → option_and_then parts_from found ≡ Some parts → HasForm text parts
path_form text None parts is e = absurd (let found = ap is_some e in cc)
path_form text (Some path) parts is e =
    first_form text path (cut_at 47 path) parts (after_is (codes "xdstp://") (head_of text) path is) (cuts_as 47 path (cut_at 47 path) refl) e

pub name_has_form : (text : List ℕ) (parts : Parts) → parts_of text ≡ Some parts → HasForm text parts
unfolding parts_of
name_has_form text parts e = path_form text (after (codes "xdstp://") (head_of text)) parts refl e
