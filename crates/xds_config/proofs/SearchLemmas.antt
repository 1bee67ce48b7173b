-- What a search by halves finds in a list that rises strictly.
use Rattle.std.proofs.Common.{◌≡◌, ℕ, ◌<◌, ◌≤◌, ◌⊎◌, inl, inr, refl, sym, ap, ◌∙◌, subst, arith, List, [], ◌∷◌, length, length-take, map, take, get_or, get_or-take, Bool, true, false, cond, lt-ltb, le-ltb, ltb-true, eqb-true, Some, None, Ordering, Less, Equal, Greater, is_eq, nat_cmp}
use Rattle.std.proofs.lemmas.Bool.{cases_lt}
use Rattle.std.proofs.lemmas.Cmp.{nat_cmp_total}
use Rattle.std.proofs.lemmas.List.{get_or-map, length-map}
use Rattle.std.proofs.lemmas.List.Folds.{find_at}
use Rattle.std.proofs.lemmas.List.Sums.{position_or_len_is}
use Rattle.std.proofs.lemmas.Option.{slice_get-get_or, slice_get_past}
use Rattle.std.specs.Cmp.{IsTotalOrder, nat_cmp_is}
use Rattle.std.specs.List.{position_or_len, find}
use Rattle.std.specs.List.Sorted.{IsNonDecreasingBy, IsPartitionPoint}
use Rattle.std.specs.Ordering.{ordering_index, ordering_reverse}
use Rattle.std.specs.Prelude.{◌==◌, nat_lt, slice_get, AllPairs, position, HoldsAt, ⊤}
use Rattle.xds_config.specs.declared.config.ClusterEntry.{ClusterEntry}
use Rattle.xds_config.specs.declared.route_values.Route.{Route}
use Rattle.xds_config.specs.SearchedLists.{AreByName, AreByPlace, IsNameBefore}

-- ---- how two members in strictly rising order compare with one key

-- once the first isn't below the key, the second is above it
abbrev Follows : Ordering → Ordering → Type 0
Follows Less later = ⊤
Follows Equal later = later ≡ Greater
Follows Greater later = later ≡ Greater

module _ {K : Type 0} (cmp : K → K → Ordering) (total : IsTotalOrder cmp) (k : K) where
  turned : (x y : K) → cmp x y ≡ Less → cmp y x ≡ Greater
  turned x y below = total.antisymm y x ∙ ap ordering_reverse below

  follows : (x y : K) (o : Ordering) → cmp x k ≡ o → cmp x y ≡ Less → Follows o (cmp y k)
  follows x y Less is below = tt
  follows x y Equal is below = turned k y (sym (total.congr x k y is) ∙ below)
  follows x y Greater is below = turned k y (total.trans k x y (total.antisymm k x ∙ ap ordering_reverse is) below)

never_falls : (o p : Ordering) → Follows o p → ordering_index o ≤ ordering_index p
never_falls Less p after = omega arith
never_falls Equal p after = subst (λ q. 1 ≤ ordering_index q) (sym after) (omega arith)
never_falls Greater p after = subst (λ q. 2 ≤ ordering_index q) (sym after) (omega arith)

-- what stands before an equal one isn't equal
earlier : (o p : Ordering) → Follows o p → p ≡ Equal → is_eq o ≡ false
earlier Less p after equal = refl
earlier Equal p after equal = sym (ap is_eq equal) ∙ ap is_eq after
earlier Greater p after equal = refl

-- ---- the first member that passes a test

module _ {X : Type 0} (p : X → Bool) (xs : List X) where
  abbrev FailBefore : ℕ → Type 0
  FailBefore i = (k : ℕ) (d : X) → k < i → p (get_or xs k d) ≡ false

  first_is : (i : ℕ) (d : X) → i < length xs → p (get_or xs i d) ≡ true → FailBefore i → position_or_len p xs ≡ i
  first_is i d lt here before = position_or_len_is p xs i d (omega (arith, lt)) (λ k less. before k d less) (λ _. here)

  find_first : (i : ℕ) (d : X) → i < length xs → p (get_or xs i d) ≡ true → FailBefore i → find p xs ≡ Some (get_or xs i d)
  find_first i d lt here before = find_at p xs ∙ ap (slice_get xs) (first_is i d lt here before) ∙ slice_get-get_or xs i d lt

  pub position_first : (i : ℕ) (d : X) → i < length xs → p (get_or xs i d) ≡ true → FailBefore i → position p xs ≡ Some i
  position_first i d lt here before =
      ap (λ n. cond (nat_lt n (length xs)) (Some n) None) (first_is i d lt here before) ∙ ap (λ b. cond b (Some i) None) (lt-ltb i (length xs) lt)

none_first : {X : Type 0} (p : X → Bool) (xs : List X) → FailBefore p xs (length xs) → position_or_len p xs ≡ length xs
none_first p [] fail = refl
none_first p (x ∷ xs) fail = position_or_len_is p (x ∷ xs) (length (x ∷ xs)) x (omega arith) (λ k less. fail k x less) (λ lt. absurd (omega (arith, lt)))

find_none : {X : Type 0} (p : X → Bool) (xs : List X) → FailBefore p xs (length xs) → find p xs ≡ None
find_none p xs fail = find_at p xs ∙ ap (slice_get xs) (none_first p xs fail) ∙ slice_get_past xs (length xs) (omega arith)

pub position_none : {X : Type 0} (p : X → Bool) (xs : List X) → FailBefore p xs (length xs) → position p xs ≡ None
position_none p xs fail =
    ap (λ n. cond (nat_lt n (length xs)) (Some n) None) (none_first p xs fail) ∙ ap (λ b. cond b (Some (length xs)) None) (le-ltb (length xs) (length xs) (omega arith))

-- ---- what the search finds is the first equal member, and the only one

module _ {X : Type 0} (ord : X → Ordering) (is : X → Bool) (same : (x : X) → is x ≡ is_eq (ord x)) (xs : List X) (rising : AllPairs (λ a b. Follows (ord a) (ord b)) xs) where
  rises : IsNonDecreasingBy (λ y. ordering_index (ord y)) xs
  rises i j d le lt = by (cases_lt i j)
    where
      by : (i < j) ⊎ (j ≤ i) → ordering_index (ord (get_or xs i d)) ≤ ordering_index (ord (get_or xs j d))
      by (inl less) = never_falls (ord (get_or xs i d)) (ord (get_or xs j d)) (rising i j d less lt)
      by (inr least) =
          let one : i ≡ j = omega (arith, le, least) in
          subst (λ n. ordering_index (ord (get_or xs i d)) ≤ ordering_index (ord (get_or xs n d))) one (omega arith)

  pub one_equal : (i : ℕ) → i < length xs → HoldsAt (λ y. ord y ≡ Equal) xs i → FailBefore is xs i
  one_equal i lt equal k d less = same (get_or xs k d) ∙ earlier (ord (get_or xs k d)) (ord (get_or xs i d)) (rising k i d less lt) (equal d)

  none_equal : (i : ℕ) → (IsNonDecreasingBy (λ y. ordering_index (ord y)) xs → IsPartitionPoint (λ y. ord y ≡ Less) (λ y. ord y ≡ Greater) xs i) → FailBefore is xs (length xs)
  none_equal i parted k d lt = same (get_or xs k d) ∙ by (cases_lt k i)
    where
      by : (k < i) ⊎ (i ≤ k) → is_eq (ord (get_or xs k d)) ≡ false
      by (inl less) = ap is_eq ((parted rises).0 k d (omega arith) less)
      by (inr least) = ap is_eq ((parted rises).1 k d least lt)

  pub find_equal : (i : ℕ) (d : X) → i < length xs → HoldsAt (λ y. ord y ≡ Equal) xs i → find is xs ≡ Some (get_or xs i d)
  find_equal i d lt equal = find_first is xs i d lt (same (get_or xs i d) ∙ ap is_eq (equal d)) (one_equal i lt equal)

  pub find_no_equal : (i : ℕ) → (IsNonDecreasingBy (λ y. ordering_index (ord y)) xs → IsPartitionPoint (λ y. ord y ≡ Less) (λ y. ord y ≡ Greater) xs i) → find is xs ≡ None
  find_no_equal i parted = find_none is xs (none_equal i parted)

-- ---- routes

place_decides : (x y : ℕ) → (x == y) ≡ is_eq (nat_cmp x y)
place_decides x y = by (nat_lt x y) (x == y) refl refl
  where
    by : (a b : Bool) → nat_lt x y ≡ a → (x == y) ≡ b → b ≡ is_eq (cond a Less (cond b Equal Greater))
    by true true less one = absurd (omega (arith, ltb-true x y less, eqb-true x y one))
    by true false less one = refl
    by false true less one = refl
    by false false less one = refl

routes_follow : (routes : List Route) (place : ℕ) → AreByPlace routes → AllPairs (λ a b. Follows (nat_cmp a.place place) (nat_cmp b.place place)) routes
routes_follow routes place rising i j d less lt =
    let x : ℕ = (get_or routes i d).place in
    let y : ℕ = (get_or routes j d).place in
    follows nat_cmp nat_cmp_total place x y (nat_cmp x place) refl (sym (nat_cmp_is x y Less (rising i j d less lt)))

pub route_found : (routes : List Route) (place i : ℕ) (route : Route) → AreByPlace routes → i < length routes → route ≡ get_or routes i route → HoldsAt (λ (r : Route). nat_cmp r.place place ≡ Equal) routes i → Some route ≡ find (λ r. r.place == place) routes
route_found routes place i route rising lt here equal =
    ap Some here ∙ sym (find_equal (λ (r : Route). nat_cmp r.place place) (λ r. r.place == place) (λ r. place_decides r.place place) routes (routes_follow routes place rising) i route lt equal)

pub route_missed : (routes : List Route) (place i : ℕ) → AreByPlace routes
    → (IsNonDecreasingBy (λ (r : Route). ordering_index (nat_cmp r.place place)) routes → IsPartitionPoint (λ (r : Route). nat_cmp r.place place ≡ Less) (λ (r : Route). nat_cmp r.place place ≡ Greater) routes i)
    → None ≡ find (λ (r : Route). r.place == place) routes
route_missed routes place i rising parted = sym (find_no_equal (λ (r : Route). nat_cmp r.place place) (λ r. r.place == place) (λ r. place_decides r.place place) routes (routes_follow routes place rising) i parted)

-- ---- clusters whose entries are renewed

names_at : (xs ys : List ClusterEntry) (k : ℕ) (d : ClusterEntry) → map (λ c. c.name) xs ≡ take (length xs) (map (λ c. c.name) ys) → length xs ≤ length ys → k < length xs → (get_or ys k d).name ≡ (get_or xs k d).name
names_at xs ys k d same short lt =
    sym (get_or-map (λ (c : ClusterEntry). c.name) ys k d d.name (omega (arith, lt, short)))
    ∙ sym (get_or-take (length xs) (map (λ (c : ClusterEntry). c.name) ys) k d.name lt)
    ∙ ap (λ names. get_or names k d.name) (sym same)
    ∙ get_or-map (λ (c : ClusterEntry). c.name) xs k d d.name lt

fewer : (xs ys : List ClusterEntry) → map (λ c. c.name) xs ≡ take (length xs) (map (λ c. c.name) ys) → length xs ≤ length ys
fewer xs ys same =
    let taken : length (take (length xs) (map (λ (c : ClusterEntry). c.name) ys)) ≡ length xs = ap length (sym same) ∙ length-map xs (λ (c : ClusterEntry). c.name) in
    omega (arith, length-take (length xs) (map (λ (c : ClusterEntry). c.name) ys), length-map ys (λ (c : ClusterEntry). c.name), taken)

pub renewed_by_name : (xs ys : List ClusterEntry) → map (λ c. c.name) xs ≡ take (length xs) (map (λ c. c.name) ys) → AreByName ys → AreByName xs
renewed_by_name xs ys same ordered = record {
  rising = λ i j d less lt.
      let short = fewer xs ys same in
      subst (λ n. IsNameBefore n (get_or xs j d).name) (names_at xs ys i d same short (omega (arith, less, lt)))
      (subst (λ n. IsNameBefore (get_or ys i d).name n) (names_at xs ys j d same short lt) (ordered.rising i j d less (omega (arith, lt, short))));
  few = omega (arith, fewer xs ys same, ordered.few);
}
