-- Which clusters read which addresses.
use Rattle.std.proofs.Common.{◌≡◌, ◌<◌, ◌≤◌, ◌+◌, ℕ, zero, suc, Bool, true, false, cond, List, [], ◌∷◌, length, take, get_or, Option, Some, ◌⊎◌, inl, inr, refl, sym, ap, ◌∙◌, subst, arith}
use Rattle.std.specs.Prelude.{All, Contains, unwrap_or}
use Rattle.std.specs.Map.{lookup}
use Rattle.std.specs.Ordering.{nat_cmp, is_eq}
use Rattle.std.specs.Cmp.Lexicographic.{slice_cmp}
use Rattle.std.proofs.lemmas.Map.Text.{is_eq-slice_cmp}
use Rattle.std.proofs.lemmas.Slice.Eq.{bytes_eq-Decides}
use Rattle.std.proofs.lemmas.List.{take_more, take_all}
use Rattle.std.proofs.lemmas.List.Elements.{All-append, All-cons, Contains-append_cases}
use Rattle.std.specs.Prelude.{Result, Ok, Err, IfOk}
use Rattle.xc_base.specs.declared.reason.Reason.{Reason}
use Rattle.xds_config.specs.declared.config.Leaves.{Leaves}
use Rattle.xds_config.specs.declared.config.Leaf.{Leaf}
use Rattle.xds_config.specs.declared.endpoint_values.Locality.{Locality}
use Rattle.tree_steps.specs.Reports.{localities_of}
use Rattle.tree_steps.specs.Users.{UserList, users_at, Grows, ReadsAddresses, ReadsLocalities, ReadsLeaves, MarksUsers}

-- the map after a change at one address
abbrev pub ChangesOne : UserList → UserList → List ℕ → List ℕ → Type 0
ChangesOne old new address places = (other : List ℕ) → lookup (λ a. is_eq (slice_cmp nat_cmp other a)) new ≡ cond (is_eq (slice_cmp nat_cmp address other)) (Some places) (lookup (λ a. is_eq (slice_cmp nat_cmp other a)) old)

at_changed : (b : Bool) (old new : UserList) (address other places : List ℕ) → is_eq (slice_cmp nat_cmp address other) ≡ b → ChangesOne old new address places →
    users_at new other ≡ cond b places (users_at old other)
at_changed true old new address other places is change =
    ap (λ (o : Option (List ℕ)). unwrap_or o []) (change other ∙ ap (λ (b : Bool). cond b (Some places) (lookup (λ a. is_eq (slice_cmp nat_cmp other a)) old)) is)
at_changed false old new address other places is change =
    ap (λ (o : Option (List ℕ)). unwrap_or o []) (change other ∙ ap (λ (b : Bool). cond b (Some places) (lookup (λ a. is_eq (slice_cmp nat_cmp other a)) old)) is)

itself : (a : List ℕ) → is_eq (slice_cmp nat_cmp a a) ≡ true
itself a = is_eq-slice_cmp a a ∙ (bytes_eq-Decides a a).1 refl

pub user_added : (old new : UserList) (address places : List ℕ) (place : ℕ) → ChangesOne old new address places → Contains places place → Contains (users_at new address) place
user_added old new address places place change has = subst (λ ps. Contains ps place) (sym (at_changed true old new address address places (itself address) change)) has

grown : (b : Bool) (old new : UserList) (address other places : List ℕ) (place : ℕ) → is_eq (slice_cmp nat_cmp address other) ≡ b → ChangesOne old new address places →
    (Contains (users_at old address) place → Contains places place) → Contains (users_at old other) place → Contains (users_at new other) place
grown true old new address other places place is change kept has =
    let same : address ≡ other = (bytes_eq-Decides address other).0 (sym (is_eq-slice_cmp address other) ∙ is) in
    subst (λ ps. Contains ps place) (sym (at_changed true old new address other places is change)) (kept (subst (λ a. Contains (users_at old a) place) (sym same) has))
grown false old new address other places place is change kept has = subst (λ ps. Contains ps place) (sym (at_changed false old new address other places is change)) has

pub users_grow : (old new : UserList) (address places : List ℕ) → ChangesOne old new address places → ((p : ℕ) → Contains (users_at old address) p → Contains places p) → Grows old new
users_grow old new address places change kept = λ other place has. grown (is_eq (slice_cmp nat_cmp address other)) old new address other places place refl change (kept place) has

pub grows_on : (a b c : UserList) → Grows a b → Grows b c → Grows a c
grows_on a b c first second = λ address place has. second address place (first address place has)

all_more : {X : Type 0} (P Q : X → Type 0) (xs : List X) (i : ℕ) (x : X) → i < length xs → x ≡ get_or xs i x → All P (take i xs) → ((y : X) → P y → Q y) → Q x → All Q (take (i + 1) xs)
all_more P Q xs i x lt is all each here =
    subst (λ ys. All Q ys) (sym (take_more xs i x lt))
    (All-append Q (take i xs) (get_or xs i x ∷ []) (λ k d within. each (get_or (take i xs) k d) (all k d within)) (All-cons Q (get_or xs i x) [] (subst Q is here) (λ k d within. absurd (omega arith))))

grown_addresses : (old new : UserList) (place : ℕ) → Grows old new → (xs : List (List ℕ)) → ReadsAddresses old place xs → ReadsAddresses new place xs
grown_addresses old new place grows xs all = λ k d lt. grows (get_or xs k d) place (all k d lt)

grown_localities : (old new : UserList) (place : ℕ) → Grows old new → (ls : List Locality) → ReadsLocalities old place ls → ReadsLocalities new place ls
grown_localities old new place grows ls all = λ k d lt. grown_addresses old new place grows (get_or ls k d).addresses (all k d lt)

pub grown_leaves : (old new : UserList) (place : ℕ) → Grows old new → (leaves : List Leaf) → ReadsLeaves old place leaves → ReadsLeaves new place leaves
grown_leaves old new place grows leaves all = λ k d lt. grown_localities old new place grows (localities_of (get_or leaves k d)) (all k d lt)

pub addresses_more : (old new : UserList) (place : ℕ) (xs : List (List ℕ)) (i : ℕ) (x : List ℕ) → i < length xs → x ≡ get_or xs i x → ReadsAddresses old place (take i xs) → Grows old new → Contains (users_at new x) place →
    ReadsAddresses new place (take (i + 1) xs)
addresses_more old new place xs i x lt is all grows here =
    all_more (λ (a : List ℕ). Contains (users_at old a) place) (λ (a : List ℕ). Contains (users_at new a) place) xs i x lt is all (λ y has. grows y place has) here

pub localities_more : (old new : UserList) (place : ℕ) (xs : List Locality) (i : ℕ) (x : Locality) → i < length xs → x ≡ get_or xs i x → ReadsLocalities old place (take i xs) → Grows old new → ReadsAddresses new place x.addresses →
    ReadsLocalities new place (take (i + 1) xs)
localities_more old new place xs i x lt is all grows here =
    all_more (λ (l : Locality). ReadsAddresses old place l.addresses) (λ (l : Locality). ReadsAddresses new place l.addresses) xs i x lt is all (λ y has. grown_addresses old new place grows y.addresses has) here

pub leaves_more : (old new : UserList) (place : ℕ) (xs : List Leaf) (i : ℕ) (x : Leaf) → i < length xs → x ≡ get_or xs i x → ReadsLeaves old place (take i xs) → Grows old new → ReadsLocalities new place (localities_of x) →
    ReadsLeaves new place (take (i + 1) xs)
leaves_more old new place xs i x lt is all grows here =
    all_more (λ (l : Leaf). ReadsLocalities old place (localities_of l)) (λ (l : Leaf). ReadsLocalities new place (localities_of l)) xs i x lt is all (λ y has. grown_localities old new place grows (localities_of y) has) here

-- all of a list, once the loop is over
pub all_taken : {X : Type 0} (P : X → Type 0) (xs : List X) (i : ℕ) → length xs ≤ i → All P (take i xs) → All P xs
all_taken P xs i le all = subst (λ ys. All P ys) (take_all i xs le) all

contains_more : {X : Type 0} (xs : List X) (i : ℕ) (x y : X) → i < length xs → x ≡ get_or xs i x → Contains (take (i + 1) xs) y → Contains (take i xs) y ⊎ (x ≡ y)
contains_more xs i x y lt is has = by (Contains-append_cases (take i xs) (get_or xs i x ∷ []) y (subst (λ ys. Contains ys y) (take_more xs i x lt) has))
  where
    single : (k : ℕ) → k < 1 → get_or (get_or xs i x ∷ []) k y ≡ y → x ≡ y
    single zero lt same = is ∙ same
    single (suc k) lt same = absurd (omega arith)

    by : Contains (take i xs) y ⊎ Contains (get_or xs i x ∷ []) y → Contains (take i xs) y ⊎ (x ≡ y)
    by (inl before) = inl before
    by (inr here) = inr (single here.0 here.1 here.2)

mark_by : (users : UserList) (changed : List (List ℕ)) (i : ℕ) (x : List ℕ) (old new : List Bool) (place : ℕ) (a : List ℕ) → Contains (take i changed) a ⊎ (x ≡ a) →
    MarksUsers users (take i changed) old → ((p : ℕ) → get_or old p false ≡ true → get_or new p false ≡ true) → length old ≡ length new →
    ((p : ℕ) → Contains (users_at users x) p → p < length old → get_or new p false ≡ true) → Contains (users_at users a) place → place < length new → get_or new place false ≡ true
mark_by users changed i x old new place a (inl before) was kept long here reads lt = kept place (was a place before reads (omega arith))
mark_by users changed i x old new place a (inr same) was kept long here reads lt = here place (subst (λ b. Contains (users_at users b) place) (sym same) reads) (omega arith)

-- the clusters that read one more address are marked
pub marks_more : (users : UserList) (changed : List (List ℕ)) (i : ℕ) (x : List ℕ) (old new : List Bool) → i < length changed → x ≡ get_or changed i x → MarksUsers users (take i changed) old →
    ((p : ℕ) → get_or old p false ≡ true → get_or new p false ≡ true) → length old ≡ length new → ((p : ℕ) → Contains (users_at users x) p → p < length old → get_or new p false ≡ true) → MarksUsers users (take (i + 1) changed) new
marks_more users changed i x old new lt is was kept long here =
    λ a place has reads within. mark_by users changed i x old new place a (contains_more changed i x a lt is has) was kept long here reads within

pub marks_all : (users : UserList) (changed : List (List ℕ)) (i : ℕ) (marks : List Bool) → length changed ≤ i → MarksUsers users (take i changed) marks → MarksUsers users changed marks
marks_all users changed i marks le marked = subst (λ xs. MarksUsers users xs marks) (take_all i changed le) marked

pub entry_grown : (old new : UserList) (place : ℕ) (state : Result Leaves Reason) → Grows old new → IfOk state (λ leaves. ReadsLeaves old place leaves.leaves) → IfOk state (λ leaves. ReadsLeaves new place leaves.leaves)
entry_grown old new place (Ok leaves) grows reads = grown_leaves old new place grows leaves.leaves reads
entry_grown old new place (Err reason) grows reads = tt
