-- Localities that stand once, found with the places of those before.
use Rattle.std.proofs.Common.{◌≡◌, ℕ, ◌<◌, ◌≤◌, ◌+◌, List, [], ◌∷◌, ◌++◌, length, get_or, take, Bool, true, false, cond, refl, sym, ap, ◌∙◌, subst, arith, eqb-true, ltb-true, AllPairs, true≢false, nat_cmp, is_eq, Ordering, Less, Equal, Greater, get_or-take, take_all, length-take, suc}
use Rattle.std.specs.Prelude.{◌==◌, ◌&&◌, ◌||◌, not, nat_lt, if◌then◌else◌}
use Rattle.std.specs.Cmp.Lexicographic.{slice_cmp}
use Rattle.std.specs.List.{list_any}
use Rattle.std.specs.Ordering.{on, then_cmp, ordering_then}
use Rattle.std.proofs.lemmas.List.{take_more, get_or_default}
use Rattle.std.proofs.lemmas.List.Folds.{list_any_at, list_any_none, list_any_more}
use Rattle.std.proofs.lemmas.List.Kept.{AllPairs-cons}
use Rattle.std.proofs.lemmas.List.Quantifiers.{all_pairs_push}
use Rattle.std.proofs.lemmas.Map.Text.{is_eq-slice_cmp}
use Rattle.xds_config.specs.declared.endpoint_values.Locality.{Locality}
use Rattle.check_clusters.specs.declared.localities.Place.{Place}
use Rattle.check_clusters.specs.Assignments.{is_same_place, stand_once}
use Rattle.check_clusters.specs.Places.{place_of}

abbrev pub place_cmp : Place → Place → Ordering
place_cmp =
    then_cmp (on (λ p. p.priority) nat_cmp)
    (then_cmp (on (λ p. p.region) (slice_cmp nat_cmp)) (then_cmp (on (λ p. p.zone) (slice_cmp nat_cmp)) (on (λ p. p.sub_zone) (slice_cmp nat_cmp))))

abbrev pub is_place : Place → Place → Bool
is_place p q = is_eq (place_cmp p q)

-- one of the places is this one
abbrev pub is_held : List Place → Place → Bool
is_held places p = list_any (is_place p) places

-- one of the localities stands there
abbrev pub is_taken : List Locality → Place → Bool
is_taken ls p = list_any (λ l. is_place (place_of l) p) ls

-- no locality stands where one before it does
abbrev pub AreApart : List Locality → Type 0
AreApart ls = AllPairs (λ a b. is_same_place a b ≡ false) ls

then_eq : (o r : Ordering) → is_eq (ordering_then o r) ≡ (is_eq o && is_eq r)
then_eq Less r = refl
then_eq Equal r = refl
then_eq Greater r = refl

number_eq : (m n : ℕ) → is_eq (nat_cmp m n) ≡ (m == n)
number_eq m n = at (nat_lt m n) (m == n) refl refl
  where
    at : (a b : Bool) → nat_lt m n ≡ a → (m == n) ≡ b → is_eq (cond a Less (cond b Equal Greater)) ≡ b
    at true true less same = absurd (let lt = ltb-true m n less in let e = eqb-true m n same in omega arith)
    at true false less same = refl
    at false true less same = refl
    at false false less same = refl

pub same_place : (l m : Locality) → is_place (place_of l) (place_of m) ≡ is_same_place l m
same_place l m =
    simp (then_eq, number_eq l.priority m.priority, is_eq-slice_cmp l.id.region m.id.region, is_eq-slice_cmp l.id.zone m.id.zone, is_eq-slice_cmp l.id.sub_zone m.id.sub_zone)

any_alike : (p q : Locality → Bool) → ((l : Locality) → p l ≡ q l) → (ls : List Locality) → list_any p ls ≡ list_any q ls
any_alike p q alike [] = refl
any_alike p q alike (l ∷ ls) = rw (alike l) (ap (λ b. q l || b) (any_alike p q alike ls))

none_of : {X : Type 0} (p : X → Bool) (xs : List X) → list_any p xs ≡ false → (k : ℕ) (d : X) → k < length xs → p (get_or xs k d) ≡ false
none_of p xs none k d lt = at (p (get_or xs k d)) refl
  where
    at : (b : Bool) → p (get_or xs k d) ≡ b → b ≡ false
    at true is = absurd (true≢false (sym (list_any_at p xs k d lt is) ∙ none))
    at false is = refl

-- ---- the definition by pairs

negated : (a b : Bool) → (not a && b) ≡ true → (a ≡ false) × (b ≡ true)
negated true b h = absurd (cc)
negated false b h = (refl, h)

pub apart : (ls : List Locality) → stand_once ls ≡ true → AreApart ls
apart [] h = λ i j d lt within. absurd (omega arith)
apart (l ∷ ls) h =
    let once = negated (list_any (is_same_place l) ls) (stand_once ls) h in
    AllPairs-cons (λ a b. is_same_place a b ≡ false) l ls (none_of (is_same_place l) ls once.0) (apart ls once.1)

pub once : (ls : List Locality) → AreApart ls → stand_once ls ≡ true
once [] h = refl
once (l ∷ ls) h =
    rw (list_any_none (is_same_place l) ls (λ k d lt. h 0 (suc k) d (omega arith) (omega arith)))
    (once ls (λ i j d lt within. h (suc i) (suc j) d (omega arith) (omega arith)))

-- ---- the loop's steps

added : (a b : Bool) → (if a then true else b) ≡ (b || a)
added true true = refl
added true false = refl
added false true = refl
added false false = refl

pub one_more_taken : (ls : List Locality) (i : ℕ) (l : Locality) (old new : List Place) → i < length ls → l ≡ get_or ls i l
    → ((p : Place) → is_held old p ≡ is_taken (take i ls) p)
    → ((p : Place) → is_held new p ≡ (if is_place (place_of l) p then true else is_held old p))
    → (p : Place) → is_held new p ≡ is_taken (take (i + 1) ls) p
one_more_taken ls i l old new lt is held update p =
    update p
    ∙ added (is_place (place_of l) p) (is_held old p)
    ∙ ap (λ b. b || is_place (place_of l) p) (held p)
    ∙ ap (λ m. is_taken (take i ls) p || is_place (place_of m) p) is
    ∙ sym (list_any_more (λ (m : Locality). is_place (place_of m) p) ls i l lt)

taken_is : (ls : List Locality) (l : Locality) → is_taken ls (place_of l) ≡ list_any (λ m. is_same_place m l) ls
taken_is ls l = any_alike (λ m. is_place (place_of m) (place_of l)) (λ m. is_same_place m l) (λ m. same_place m l) ls

pub one_more_apart : (ls : List Locality) (i : ℕ) (l : Locality) (old : List Place) → i < length ls → l ≡ get_or ls i l
    → ((p : Place) → is_held old p ≡ is_taken (take i ls) p) → is_held old (place_of l) ≡ false → AreApart (take i ls) → AreApart (take (i + 1) ls)
one_more_apart ls i l old lt is held new so_far =
    let none : list_any (λ m. is_same_place m l) (take i ls) ≡ false = sym (taken_is (take i ls) l) ∙ sym (held (place_of l)) ∙ new in
    subst AreApart (ap (λ m. take i ls ++ m ∷ []) is ∙ sym (take_more ls i l lt))
    (all_pairs_push (λ a b. is_same_place a b ≡ false) (take i ls) l so_far (none_of (λ m. is_same_place m l) (take i ls) none))

before_differ : (ls : List Locality) (i : ℕ) (l : Locality) → i < length ls → AreApart ls → list_any (λ m. is_same_place m (get_or ls i l)) (take i ls) ≡ false
before_differ ls i l lt h =
    list_any_none (λ m. is_same_place m (get_or ls i l)) (take i ls)
    (λ k d within. let under : k < i = omega (arith, length-take {A = Locality}) in
    ap (λ m. is_same_place m (get_or ls i l)) (get_or-take i ls k d under)
    ∙ ap (is_same_place (get_or ls k d)) (get_or_default ls i l d lt)
    ∙ h k i d under lt)

pub twice : (ls : List Locality) (i : ℕ) (l : Locality) (old : List Place) → i < length ls → l ≡ get_or ls i l
    → ((p : Place) → is_held old p ≡ is_taken (take i ls) p) → is_held old (place_of l) ≡ true → false ≡ stand_once ls
twice ls i l old lt is held again = at (stand_once ls) refl
  where
    at : (b : Bool) → stand_once ls ≡ b → false ≡ b
    at true all = absurd (true≢false (
        sym again ∙ held (place_of l) ∙ taken_is (take i ls) l
        ∙ ap (λ m. list_any (λ k. is_same_place k m) (take i ls)) is
        ∙ before_differ ls i l lt (apart ls all)))
    at false all = refl

pub all_once : (ls : List Locality) (i : ℕ) → length ls ≤ i → AreApart (take i ls) → true ≡ stand_once ls
all_once ls i all h = sym (once ls (subst AreApart (take_all i ls all) h))
