-- At the places of which clusters leaves have a key.
use Rattle.std.proofs.Common.{◌≡◌, ℕ, zero, suc, ◌+◌, ◌<◌, ◌==◌, arith, refl, sym, ap, ap₂, ◌∙◌, subst, List, [], ◌∷◌, ◌++◌, length, get_or, take, map, Bool, true, false, ◌||◌, cond, Option, Some, None}
use Rattle.std.specs.Prelude.{◌&&◌, All, slice_get, unwrap_or}
use Rattle.std.specs.List.{list_any}
use Rattle.std.specs.Map.{keys_of, lookup}
use Rattle.std.specs.Option.{option_map_or}
use Rattle.std.proofs.lemmas.Bool.{true≢false}
use Rattle.std.proofs.lemmas.List.{ext_get_or, length-map, length-take-le, map-append, take_more}
use Rattle.std.proofs.lemmas.Option.{get_or_from_slice_get, slice_get_within}
use Rattle.std.proofs.lemmas.List.Folds.{list_any-append, list_any_at}
use Rattle.std.proofs.lemmas.Map.Made.{is_some-lookup}
use Rattle.std.proofs.Math.Dec.{eqb-suc-suc, eqb-suc-zero, eqb-zero-suc}
use Rattle.std.proofs.Math.ListN.{get_or-map}
use Rattle.xc_base.proofs.JoinLemmas.{eqb_refl}
use Rattle.xc_base.specs.declared.names.Key.{Key}
use Rattle.xc_keys.specs.Keys.{is_key}
use Rattle.xc_keys.proofs.KeyLemmas.{same_key}
use Rattle.config_assembly.specs.Watching.{has_key}
use Rattle.dep_manager.specs.EndpointNews.{Told, is_told}
use Rattle.dep_manager.specs.LeafPlaces.{ArePlacesOf, Places, Sources, has_leaf, has_place, is_listed, is_source}

-- ---- tests of lists

or_none : (b : Bool) → (b || false) ≡ b
or_none true = refl
or_none false = refl

pub none_yet : (a b : Bool) → a ≡ (a || (false && b))
none_yet true b = refl
none_yet false b = refl

pub any_next : {X : Type 0} (q : X → Bool) (xs : List X) (i : ℕ) (x : X) → i < length xs → x ≡ get_or xs i x → list_any q (take (i + 1) xs) ≡ (list_any q (take i xs) || q x)
any_next q xs i x lt is =
    ap (list_any q) (take_more xs i x lt ∙ ap (λ y. take i xs ++ y ∷ []) (sym is))
    ∙ list_any-append q (take i xs) (x ∷ [])
    ∙ ap (λ b. list_any q (take i xs) || b) (or_none (q x))

either_here : (first before own here : Bool) → ((first || (before && here)) || (own && here)) ≡ (first || ((before || own) && here))
either_here true before own here = refl
either_here false true own true = refl
either_here false true true false = refl
either_here false true false false = refl
either_here false false own here = refl

-- ---- a place more is listed

with_place : (places : List ℕ) (place at : ℕ) → has_place (places ++ place ∷ []) at ≡ (has_place places at || (place == at))
with_place places place at = list_any-append (λ other. other == at) places (place ∷ []) ∙ ap (λ b. has_place places at || b) (or_none (place == at))

listed_by : (b : Bool) (old new : Places) (key other : Key) (place at : ℕ) (before : Option (List ℕ)) → is_key key other ≡ b → lookup (is_key key) old ≡ before →
    lookup (is_key other) new ≡ cond b (Some (unwrap_or before [] ++ place ∷ [])) (lookup (is_key other) old) → is_listed new other at ≡ (is_listed old other at || (b && (place == at)))
listed_by true old new key other place at before is found change =
    let same : unwrap_or before [] ≡ unwrap_or (lookup (is_key other) old) [] = ap (λ o. unwrap_or o []) (sym found ∙ ap (λ k. lookup (is_key k) old) (same_key key other is)) in
    ap (λ o. has_place (unwrap_or o []) at) change ∙ with_place (unwrap_or before []) place at ∙ ap (λ ps. has_place ps at || (place == at)) same
listed_by false old new key other place at before is found change = ap (λ o. has_place (unwrap_or o []) at) change ∙ none_yet (is_listed old other at) (place == at)

pub listed_next : (old new : Places) (key : Key) (place : ℕ) (before : Option (List ℕ)) → lookup (is_key key) old ≡ before →
    ((other : Key) → lookup (is_key other) new ≡ cond (is_key key other) (Some (unwrap_or before [] ++ place ∷ [])) (lookup (is_key other) old)) →
    (other : Key) (at : ℕ) → is_listed new other at ≡ (is_listed old other at || (is_key key other && (place == at)))
listed_next old new key place before found change other at = listed_by (is_key key other) old new key other place at before refl found (change other)

-- a leaf more
pub leaf_next : (first old new : Bool) (key : Key) (place at : ℕ) (sources : List (Option Key)) (i : ℕ) (source : Option Key) → i < length sources → source ≡ get_or sources i source →
    new ≡ (old || (is_source key source && (place == at))) → old ≡ (first || (list_any (is_source key) (take i sources) && (place == at))) →
    new ≡ (first || (list_any (is_source key) (take (i + 1) sources) && (place == at)))
leaf_next first old new key place at sources i source lt is change kept =
    change ∙ ap (λ b. b || (is_source key source && (place == at))) kept
    ∙ either_here first (list_any (is_source key) (take i sources)) (is_source key source) (place == at)
    ∙ ap (λ b. first || (b && (place == at))) (sym (any_next (is_source key) sources i source lt is))

-- ---- a cluster more

and_none : (b : Bool) → (b && false) ≡ false
and_none true = refl
and_none false = refl

both_here : (b : Bool) → (b && true) ≡ b
both_here true = refl
both_here false = refl

has_last : (key : Key) (before : Sources) (last : List (Option Key)) (at : ℕ) → has_leaf (before ++ last ∷ []) key at ≡ (has_leaf before key at || (list_any (is_source key) last && (length before == at)))
has_last key [] last zero = sym (both_here (list_any (is_source key) last))
has_last key [] last (suc at) = sym (ap (λ b. list_any (is_source key) last && b) (eqb-zero-suc at) ∙ and_none (list_any (is_source key) last))
has_last key (own ∷ before) last zero =
    sym (or_none (list_any (is_source key) own))
    ∙ ap (λ b. list_any (is_source key) own || b) (sym (ap (λ b. list_any (is_source key) last && b) (eqb-suc-zero (length before)) ∙ and_none (list_any (is_source key) last)))
has_last key (own ∷ before) last (suc at) = has_last key before last at ∙ ap (λ b. has_leaf before key at || (list_any (is_source key) last && b)) (sym (eqb-suc-suc (length before) at))

pub cluster_next : (sources : Sources) (i : ℕ) (own : List (Option Key)) (old new : Places) → i < length sources → own ≡ get_or sources i own → ArePlacesOf (take i sources) old →
    ((key : Key) (at : ℕ) → is_listed new key at ≡ (is_listed old key at || (list_any (is_source key) own && (i == at)))) → ArePlacesOf (take (i + 1) sources) new
cluster_next sources i own old new lt is kept change key at =
    let long : length (take i sources) ≡ i = length-take-le i sources (omega (arith, lt)) in
    change key at
    ∙ ap (λ b. b || (list_any (is_source key) own && (i == at))) (kept key at)
    ∙ ap (λ n. has_leaf (take i sources) key at || (list_any (is_source key) own && (n == at))) (sym long)
    ∙ sym (has_last key (take i sources) own at)
    ∙ ap (λ all. has_leaf all key at) (ap (λ last. take i sources ++ last ∷ []) is ∙ sym (take_more sources i own lt))

-- ---- places of clusters that there are

past : (key : Key) (sources : Sources) (at : ℕ) → has_leaf sources key at ≡ true → at < length sources
past key [] at has = absurd (true≢false (sym has))
past key (own ∷ sources) zero has = omega arith
past key (own ∷ sources) (suc at) has = let lt : at < length sources = past key sources at has in omega (arith, lt)

pub places_within : (key : Key) (sources : Sources) (places : List ℕ) → ((at : ℕ) → has_place places at ≡ has_leaf sources key at) → All (λ place. place < length sources) places
places_within key sources places listed = λ k d lt.
    past key sources (get_or places k d) (sym (listed (get_or places k d)) ∙ list_any_at (λ other. other == get_or places k d) places k d lt (eqb_refl (get_or places k d)))

-- ---- marks of the clusters that have a leaf with any of some keys

-- a leaf has its endpoints from one of these keys
abbrev pub is_among : List Key → Option Key → Bool
is_among keys source = option_map_or (has_key keys) source false

-- a leaf of the cluster at this place does
abbrev pub has_any : List Key → Sources → ℕ → Bool
has_any keys sources at = list_any (is_among keys) (get_or sources at [])

among_told : (told : Told) (source : Option Key) → is_told told source ≡ is_among (keys_of told) source
among_told told None = refl
among_told told (Some key) = is_some-lookup (is_key key) told

any_told : (told : Told) (sources : List (Option Key)) → list_any (is_told told) sources ≡ list_any (is_among (keys_of told)) sources
any_told told [] = refl
any_told told (source ∷ sources) = ap₂ (λ a b. a || b) (among_told told source) (any_told told sources)

any_of_none : (sources : List (Option Key)) → list_any (is_among []) sources ≡ false
any_of_none [] = refl
any_of_none (None ∷ sources) = any_of_none sources
any_of_none (Some key ∷ sources) = any_of_none sources

four : (a b c d : Bool) → ((a || b) || (c || d)) ≡ ((a || c) || (b || d))
four true b c d = refl
four false true true d = refl
four false true false d = refl
four false false c d = refl

any_of_more : (key : Key) (keys : List Key) (sources : List (Option Key)) → list_any (is_among (key ∷ keys)) sources ≡ (list_any (is_source key) sources || list_any (is_among keys) sources)
any_of_more key keys [] = refl
any_of_more key keys (None ∷ sources) = any_of_more key keys sources
any_of_more key keys (Some own ∷ sources) =
    ap (λ b. (is_key own key || has_key keys own) || b) (any_of_more key keys sources)
    ∙ four (is_key own key) (has_key keys own) (list_any (is_source key) sources) (list_any (is_among keys) sources)

or_assoc : (a b c : Bool) → ((a || b) || c) ≡ (a || (b || c))
or_assoc true b c = refl
or_assoc false b c = refl

-- the places that are marked already, and those that the keys that are left lead to
pub marks_next : (marks new : List Bool) (places : List ℕ) (key : Key) (before left : List Key) (sources : Sources) (all : ℕ → Bool) → before ≡ key ∷ left →
    ((at : ℕ) → at < length marks → get_or new at false ≡ (get_or marks at false || has_place places at)) → ((at : ℕ) → has_place places at ≡ has_leaf sources key at) → length new ≡ length marks →
    ((at : ℕ) → at < length marks → (get_or marks at false || has_any before sources at) ≡ all at) → (at : ℕ) → at < length new → (get_or new at false || has_any left sources at) ≡ all at
marks_next marks new places key before left sources all first set listed long kept at less =
    let lt : at < length marks = subst (λ n. at < n) long less in
    ap (λ b. b || has_any left sources at) (set at lt ∙ ap (λ b. get_or marks at false || b) (listed at))
    ∙ or_assoc (get_or marks at false) (has_leaf sources key at) (has_any left sources at)
    ∙ ap (λ b. get_or marks at false || b) (sym (any_of_more key left (get_or sources at [])))
    ∙ ap (λ keys. get_or marks at false || has_any keys sources at) (sym first)
    ∙ kept at lt

pub marks_all : (told : Told) (marks : List Bool) (sources : Sources) (left : List Key) → length marks ≡ length sources → left ≡ [] →
    ((at : ℕ) → at < length marks → (get_or marks at false || has_any left sources at) ≡ has_any (keys_of told) sources at) → marks ≡ map (list_any (is_told told)) sources
marks_all told marks sources left long none kept =
    let each : (at : ℕ) → at < length marks → get_or marks at false ≡ list_any (is_told told) (get_or sources at []) = λ at lt.
    sym (or_none (get_or marks at false))
    ∙ ap (λ b. get_or marks at false || b) (sym (any_of_none (get_or sources at [])))
    ∙ ap (λ keys. get_or marks at false || has_any keys sources at) (sym none)
    ∙ kept at lt
    ∙ sym (any_told told (get_or sources at [])) in
    ext_get_or false marks (map (list_any (is_told told)) sources) (long ∙ sym (length-map sources (list_any (is_told told))))
    (λ at lt. each at lt ∙ sym (get_or-map (list_any (is_told told)) sources at []))

-- ---- what is made of each member in turn

pub mapped_next : {X Y : Type 0} (f : X → Y) (xs : List X) (ys new : List Y) (i : ℕ) (x : X) (y : Y) → slice_get xs i ≡ Some x → y ≡ f x → new ≡ ys ++ y ∷ [] → ys ≡ map f (take i xs) → new ≡ map f (take (i + 1) xs)
mapped_next f xs ys new i x y here made grown kept =
    grown ∙ ap₂ (λ before z. before ++ z ∷ []) kept (made ∙ ap f (sym (get_or_from_slice_get xs i x x here)))
    ∙ sym (map-append f (take i xs) (get_or xs i x ∷ []))
    ∙ ap (map f) (sym (take_more xs i x (slice_get_within xs i x here)))
