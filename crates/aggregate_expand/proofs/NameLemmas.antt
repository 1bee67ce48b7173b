-- Names that are with_names once.
use Rattle.std.proofs.Common.{◌≡◌, List, [], ◌∷◌, ◌++◌, Bool, true, false, refl, ◌∙◌, ap}
use Rattle.std.specs.Prelude.{if◌then◌else◌}
use Rattle.std.specs.List.{list_all}
use Rattle.std.specs.Str.{bytes_eq}
use Rattle.std.proofs.lemmas.List.Folds.{list_any-append}
use Rattle.std.proofs.lemmas.Bool.{or_left, or_right, and_parts, and_from}
use Rattle.std.proofs.lemmas.Slice.Eq.{bytes_eq-Decides}
use Rattle.aggregate_expand.specs.LookedUp.{Name, has_name, with_names}

-- a longer list has_name more
pub has_left : (xs ys : List Name) (x : Name) → has_name xs x ≡ true → has_name (xs ++ ys) x ≡ true
has_left xs ys x h = list_any-append (bytes_eq x) xs ys ∙ or_left _ _ h

pub has_last : (xs : List Name) (x : Name) → has_name (xs ++ x ∷ []) x ≡ true
has_last xs x =
    list_any-append (bytes_eq x) xs (x ∷ []) ∙ or_right _ _ (or_left _ _ ((bytes_eq-Decides x x).1 refl))

-- one name more, where it isn't there
abbrev pub with_name : Bool → List Name → Name → List Name
with_name b xs y = if b then xs else xs ++ y ∷ []

pub with_keeps : (b : Bool) (xs : List Name) (y x : Name) → has_name xs x ≡ true → has_name (with_name b xs y) x ≡ true
with_keeps true xs y x h = h
with_keeps false xs y x h = has_left xs (y ∷ []) x h

pub with_has : (b : Bool) (xs : List Name) (y : Name) → has_name xs y ≡ b → has_name (with_name b xs y) y ≡ true
with_has true xs y h = h
with_has false xs y h = has_last xs y

pub keeps : (xs ys : List Name) (x : Name) → has_name xs x ≡ true → has_name (with_names xs ys) x ≡ true
keeps xs [] x h = h
keeps xs (y ∷ ys) x h = keeps (with_name (has_name xs y) xs y) ys x (with_keeps (has_name xs y) xs y x h)

pub added_all : (xs ys : List Name) → list_all (has_name (with_names xs ys)) ys ≡ true
added_all xs [] = refl
added_all xs (y ∷ ys) =
    and_from _ _ (keeps (with_name (has_name xs y) xs y) ys y (with_has (has_name xs y) xs y refl)) (added_all (with_name (has_name xs y) xs y) ys)

pub all_more : (xs zs ys : List Name) → ((x : Name) → has_name xs x ≡ true → has_name zs x ≡ true) → list_all (has_name xs) ys ≡ true → list_all (has_name zs) ys ≡ true
all_more xs zs [] more h = refl
all_more xs zs (y ∷ ys) more h =
    let p = and_parts (has_name xs y) (list_all (has_name xs) ys) h in and_from _ _ (more y p.0) (all_more xs zs ys more p.1)

pub added_same : (xs ys : List Name) → list_all (has_name xs) ys ≡ true → with_names xs ys ≡ xs
added_same xs [] h = refl
added_same xs (y ∷ ys) h =
    let p = and_parts (has_name xs y) (list_all (has_name xs) ys) h in
    ap (λ b. with_names (with_name b xs y) ys) p.0 ∙ added_same xs ys p.1

pub with_names-append : (xs ys zs : List Name) → with_names xs (ys ++ zs) ≡ with_names (with_names xs ys) zs
with_names-append xs [] zs = refl
with_names-append xs (y ∷ ys) zs = with_names-append (with_name (has_name xs y) xs y) ys zs
