-- The children of leaves.
use Rattle.std.proofs.Common.{◌≡◌, ℕ, ◌+◌, ◌-◌, ◌<◌, ◌≤◌, zero, suc, List, [], ◌∷◌, ◌++◌, length, map, take, get_or, cond, Bool, append_assoc, Option, Some, None, refl, sym, ap, ◌∙◌, subst, arith, length-append}
use Rattle.std.specs.Prelude.{All, replicate, slice_get}
use Rattle.std.specs.Option.{option_map_or}
use Rattle.std.specs.List.{range_with_len, position_from, zip}
use Rattle.std.proofs.lemmas.Slice.Zip.{get_or-zip, length-zip}
use Rattle.std.proofs.lemmas.List.{length-map, get_or-map, map-append, take_more, take_all}
use Rattle.std.proofs.lemmas.List.Elements.{All-append, All-cons}
use Rattle.std.proofs.lemmas.List.FromFn.{length-map-range_with_len, map-range_with_len_more}
use Rattle.std.proofs.lemmas.Option.{slice_get-get_or}
use Rattle.std.proofs.lemmas.Simd.{splat_is_map}
use Rattle.xds_config.specs.declared.config.Leaf.{Leaf}
use Rattle.xds_config.specs.declared.endpoint_values.Locality.{Locality}
use Rattle.priority_lb.specs.declared.facts.ChildFacts.{ChildFacts}
use Rattle.priority_lb.specs.Step.{fresh, carried}
use Rattle.priority_lb.specs.ChildHistories.{Name, same_name}
use Rattle.priority_lb.specs.ChildLaws.{places}
use Rattle.tree_steps.specs.declared.leaf_children.Child.{Child as LentChild}
use Rattle.tree_steps.specs.Reports.{Child, at_priority, localities_of, priority_count, leaf_children, children_of, name_of, names_of, Reports}
use Rattle.weighted_lb.specs.declared.picker.Picker.{Picker}
use Rattle.weighted_lb.specs.declared.picker.PickBody.TheVariants as body
use Rattle.tree_steps.specs.declared.tree_view.NamedChild.{NamedChild}
use Rattle.tree_steps.specs.TreePickers.{child_picker, picker_at}
use Rattle.tree_steps.specs.TreeSteps.{named_child}
use Rattle.tree_steps.specs.Lent.{lent, all_lent}

count_some : (o : Option Locality) → 0 < option_map_or (λ (l : Locality). l.priority + 1) o 1
count_some None = omega arith
count_some (Some l) = omega arith

abbrev with_leaf : Leaf → ℕ → Child
with_leaf leaf priority = (leaf, priority)

pub some_children : (leaves : List Leaf) → 0 < length leaves → 0 < length (children_of leaves)
some_children [] some = some
some_children (leaf ∷ leaves) some =
    let joined = length-append (leaf_children leaf) (children_of leaves) in
    let here = length-map-range_with_len (with_leaf leaf) 0 (priority_count (localities_of leaf)) in
    let count = count_some (slice_get (localities_of leaf) (length (localities_of leaf) - 1)) in
    omega (arith, joined, here, count)

pub length-lent : (children : List LentChild) → length (all_lent children) ≡ length children
length-lent children = length-map children lent

pub length-named : (children : List LentChild) → length (map name_of (all_lent children)) ≡ length children
length-named children = length-map (all_lent children) name_of ∙ length-lent children

-- as many children as are carried
pub length-begun : (names before : List Name) (old : List ChildFacts) → length (carried (places names before) old) ≡ length names
length-begun names before old = length-map (places names before) _ ∙ length-map names _

all_fresh : (names : List Name) → map (λ _. fresh) names ≡ carried (places names []) []
all_fresh [] = refl
all_fresh (n ∷ ns) = ap (λ (ks : List ChildFacts). fresh ∷ ks) (all_fresh ns)

-- children that weren't there before are new
pub fresh_begun : (names : List Name) (n : ℕ) → n ≡ length names → replicate n fresh ≡ carried (places names []) []
fresh_begun names n is = splat_is_map names n fresh (sym is) ∙ all_fresh names

all_of_leaf : (P : Leaf → Type 0) (leaf : Leaf) (priorities : List ℕ) → P leaf → All (λ child. P child.0) (map (with_leaf leaf) priorities)
all_of_leaf P leaf priorities holds = λ k d lt.
    let at : get_or (map (with_leaf leaf) priorities) k d ≡ with_leaf leaf (get_or priorities k 0) = get_or-map (with_leaf leaf) priorities k 0 d (rw (← length-map priorities (with_leaf leaf)) lt) in
    subst (λ (c : Child). P c.0) (sym at) holds

-- what holds of each leaf holds of the leaf of each child
pub all_children : (P : Leaf → Type 0) (leaves : List Leaf) → All P leaves → All (λ child. P child.0) (children_of leaves)
all_children P [] all = λ k d lt. absurd (omega arith)
all_children P (leaf ∷ leaves) all =
    All-append (λ (child : Child). P child.0) (leaf_children leaf) (children_of leaves)
    (all_of_leaf P leaf (range_with_len 0 (priority_count (localities_of leaf))) (all 0 leaf (omega arith)))
    (all_children P leaves (λ k d lt. all (suc k) d (omega arith)))

-- the child at a place
pub child_at : (children : List LentChild) (place : ℕ) (child : LentChild) → place < length children → child ≡ get_or children place child → slice_get (all_lent children) place ≡ Some (lent child)
child_at children place child lt is =
    slice_get-get_or (all_lent children) place (lent child) (rw length-lent lt) ∙ ap Some (get_or-map lent children place child (lent child) lt ∙ ap lent (sym is))

-- what holds of all children holds of the one at a place
pub lent_holds : (P : Child → Type 0) (children : List LentChild) (place : ℕ) (child : LentChild) → All P (all_lent children) → place < length children → child ≡ get_or children place child → P (lent child)
lent_holds P children place child all lt is =
    subst P (get_or-map lent children place child (lent child) lt ∙ ap lent (sym is)) (all place (lent child) (rw length-lent lt))

-- one more child of a leaf
pub child_more : (start : List Child) (old new : List LentChild) (leaf : Leaf) (n : ℕ) (child : LentChild) → all_lent old ≡ start ++ map (with_leaf leaf) (range_with_len 0 n) → new ≡ old ++ child ∷ [] →
    lent child ≡ with_leaf leaf n → all_lent new ≡ start ++ map (with_leaf leaf) (range_with_len 0 (n + 1))
child_more start old new leaf n child was is same =
    ap all_lent is ∙ (map-append lent old (child ∷ []) ∙ (ap (λ (xs : List Child). xs ++ lent child ∷ []) was ∙ (append_assoc start (map (with_leaf leaf) (range_with_len 0 n)) (lent child ∷ []) ∙
    ap (λ (xs : List Child). start ++ xs) (ap (λ (c : Child). map (with_leaf leaf) (range_with_len 0 n) ++ c ∷ []) same ∙ sym (map-range_with_len_more (with_leaf leaf) 0 n n (omega arith))))))

position_named : (p : Name → Bool) (n : ℕ) (xs : List LentChild) → position_from (λ c. p (name_of (lent c))) n xs ≡ position_from p n (map name_of (all_lent xs))
position_named p n [] = refl
position_named p n (x ∷ xs) = ap (λ (o : Option ℕ). cond (p (name_of (lent x))) (Some n) o) (position_named p (n + 1) xs)

place_among : List LentChild → LentChild → Option ℕ
place_among before child = position_from (same_name (name_of (lent child))) 0 (map name_of (all_lent before))

places_by : (before xs : List LentChild) → places (map name_of (all_lent xs)) (map name_of (all_lent before)) ≡ map (place_among before) xs
unfolding place_among
places_by before [] = refl
places_by before (x ∷ xs) = ap (λ (ps : List (Option ℕ)). place_among before x ∷ ps) (places_by before xs)

-- the place of one more child
pub place_more : (children before : List LentChild) (i : ℕ) (child : LentChild) (old new : List (Option ℕ)) (place short : Option ℕ) → i < length children → child ≡ get_or children i child →
    old ≡ places (map name_of (all_lent (take i children))) (map name_of (all_lent before)) → new ≡ old ++ short ∷ [] → short ≡ place →
    place ≡ position_from (λ c. same_name (name_of (lent child)) (name_of (lent c))) 0 before → new ≡ places (map name_of (all_lent (take (i + 1) children))) (map name_of (all_lent before))
unfolding place_among
place_more children before i child old new place short lt is was more same found =
    let here : short ≡ place_among before child = same ∙ (found ∙ position_named (same_name (name_of (lent child))) 0 before) in
    let all : map (place_among before) (take (i + 1) children) ≡ map (place_among before) (take i children) ++ place_among before child ∷ [] =
    ap (λ (xs : List LentChild). map (place_among before) xs) (take_more children i child lt ∙ ap (λ (x : LentChild). take i children ++ x ∷ []) (sym is)) ∙ map-append (place_among before) (take i children) (child ∷ []) in
    more ∙ (ap (λ (ps : List (Option ℕ)). ps ++ short ∷ []) (was ∙ places_by before (take i children)) ∙
    (ap (λ (p : Option ℕ). map (place_among before) (take i children) ++ p ∷ []) here ∙ (sym all ∙ sym (places_by before (take (i + 1) children)))))

pub one_more : {A : Type 0} (P : A → Type 0) (old new : List A) (x : A) → All P old → P x → new ≡ old ++ x ∷ [] → All P new
one_more P old new x all holds is = subst (λ xs. All P xs) (sym is) (All-append P old (x ∷ []) all (All-cons P x [] holds (λ k d lt. absurd (omega arith))))

pub some_lent : (children : List LentChild) (leaves : List Leaf) → all_lent children ≡ children_of leaves → 0 < length leaves → 0 < length children
some_lent children leaves same some = let a = some_children leaves some in let b = ap length same in let c = length-lent children in omega (arith, a, b, c)

at_mapped : {A B : Type 0} (f : A → B) (xs : List A) (n : ℕ) (none d : B) → n < length (map f xs) → get_or (map f xs) n d ≡ option_map_or f (slice_get xs n) none
at_mapped f [] n none d lt = absurd (omega arith)
at_mapped f (x ∷ xs) zero none d lt = refl
at_mapped f (x ∷ xs) (suc n) none d lt = at_mapped f xs n none d (omega arith)

-- the picker at a place is that of the child there
pub picked_at : (r : Reports) (leaves : List Leaf) (children : List LentChild) (pickers : List Picker) (place : ℕ) (picker : Picker) → all_lent children ≡ children_of leaves → pickers ≡ map (child_picker r) (all_lent children) →
    place < length pickers → picker ≡ get_or pickers place picker → picker ≡ picker_at r leaves place
picked_at r leaves children pickers place picker same are lt is =
    let all : pickers ≡ map (child_picker r) (children_of leaves) = are ∙ ap (map (child_picker r)) same in
    let within : place < length (map (child_picker r) (children_of leaves)) = subst (λ (ps : List Picker). place < length ps) all lt in
    is ∙ (ap (λ (ps : List Picker). get_or ps place picker) all ∙ at_mapped (child_picker r) (children_of leaves) place (record { drops = []; body = body.Queue }) picker within)

-- the localities of the child at a place
pub localities_are : (leaves : List Leaf) (children : List LentChild) (place : ℕ) (child : LentChild) (found : List Locality) → all_lent children ≡ children_of leaves → place < length children → child ≡ get_or children place child →
    found ≡ at_priority (lent child).1 (localities_of (lent child).0) → found ≡ option_map_or (λ c. at_priority c.1 (localities_of c.0)) (slice_get (children_of leaves) place) []
localities_are leaves children place child found same lt is made =
    let at : slice_get (children_of leaves) place ≡ Some (lent child) = ap (λ (cs : List Child). slice_get cs place) (sym same) ∙ child_at children place child lt is in
    made ∙ sym (ap (λ (o : Option Child). option_map_or (λ (c : Child). at_priority c.1 (localities_of c.0)) o []) at)

-- one more child with its name
pub named_more : (children : List LentChild) (facts : List ChildFacts) (i : ℕ) (old new : List NamedChild) (child : LentChild) (x : NamedChild) → i < length children → length children ≡ length facts →
    child ≡ get_or children i child → x ≡ named_child (name_of (lent child), get_or facts i fresh) → old ≡ map named_child (take i (zip (map name_of (all_lent children)) facts)) → new ≡ old ++ x ∷ [] →
    new ≡ map named_child (take (i + 1) (zip (map name_of (all_lent children)) facts))
named_more children facts i old new child x lt same is made was more =
    let names : List Name = map name_of (all_lent children) in
    let ln : i < length names = rw length-named lt in
    let lf : i < length facts = omega arith in
    let lz : i < length (zip names facts) = rw (length-zip names facts) (omega arith) in
    let name : get_or names i (name_of (lent child)) ≡ name_of (lent child) =
    get_or-map name_of (all_lent children) i (lent child) (name_of (lent child)) (rw length-lent lt) ∙ ap name_of (get_or-map lent children i child (lent child) lt ∙ ap lent (sym is)) in
    let at : get_or (zip names facts) i (name_of (lent child), fresh) ≡ (name_of (lent child), get_or facts i fresh) =
    get_or-zip names facts i (name_of (lent child), fresh) ln lf ∙ ap (λ (n : Name). let p : Name × ChildFacts = (n, get_or facts i fresh) in p) name in
    let next : map named_child (take (i + 1) (zip names facts)) ≡ map named_child (take i (zip names facts)) ++ named_child (name_of (lent child), get_or facts i fresh) ∷ [] =
    ap (λ (xs : List (Name × ChildFacts)). map named_child xs) (take_more (zip names facts) i (name_of (lent child), fresh) lz ∙ ap (λ (p : Name × ChildFacts). take i (zip names facts) ++ p ∷ []) at) ∙
    map-append named_child (take i (zip names facts)) ((name_of (lent child), get_or facts i fresh) ∷ []) in
    more ∙ (ap (λ (xs : List NamedChild). xs ++ x ∷ []) was ∙ (ap (λ (n : NamedChild). map named_child (take i (zip names facts)) ++ n ∷ []) made ∙ sym next))

pub named_all : (children : List LentChild) (leaves : List Leaf) (facts : List ChildFacts) (i : ℕ) (named : List NamedChild) → length children ≤ i → length children ≡ length facts → all_lent children ≡ children_of leaves →
    named ≡ map named_child (take i (zip (map name_of (all_lent children)) facts)) → named ≡ map named_child (zip (names_of leaves) facts)
named_all children leaves facts i named le same lents is =
    let z = length-zip (map name_of (all_lent children)) facts in
    let n = length-named children in
    is ∙ (ap (λ (xs : List (Name × ChildFacts)). map named_child xs) (take_all i (zip (map name_of (all_lent children)) facts) (omega (arith, z, n))) ∙
    ap (λ (cs : List Child). map named_child (zip (map name_of cs) facts)) lents)
