-- The clusters after an update.
use Rattle.std.proofs.lemmas.Bool.Decides.{nat_tests}
use Rattle.std.proofs.Common.{◌≡◌, ◌<◌, ◌≤◌, ◌+◌, ◌||◌, nat_lt, ℕ, zero, suc, Bool, true, false, cond, List, [], ◌∷◌, ◌++◌, length, take, map, get_or, Option, Some, None, Result, Ok, Err, ◌⊎◌, inl, inr, refl, sym, ap, ◌∙◌, subst, arith}
use Rattle.std.specs.Prelude.{All, AllPairs, Contains, IfOk, IfSome, bytes_eq, find, not}
use Rattle.std.specs.Option.{option_and_then}
use Rattle.std.specs.Ordering.{is_eq}
use Rattle.std.proofs.lemmas.Map.Text.{is_eq-slice_cmp}
use Rattle.std.proofs.lemmas.Slice.Eq.{bytes_eq-Decides}
use Rattle.std.proofs.lemmas.List.{length-map, get_or-map, map-append, take_more}
use Rattle.xc_base.specs.declared.names.Time.{Time}
use Rattle.xc_base.specs.declared.reason.Reason.{Reason}
use Rattle.xds_config.specs.declared.config.Leaf.{Leaf}
use Rattle.xds_config.specs.declared.config.Leaves.{Leaves}
use Rattle.xds_config.specs.declared.config.ClusterEntry.{ClusterEntry}
use Rattle.xds_config.specs.Configs.{AreLawfulLeaves, IsNameBefore}
use Rattle.graceful_switch.specs.Takeover.{Pair, has_to_wait, settled}
use Rattle.cluster_tree.specs.declared.cluster_trees.Cluster.{Cluster}
use Rattle.cluster_tree.specs.declared.cluster_trees.Standing.{Standing}
use Rattle.tree_steps.specs.declared.tree_view.TreeView.{TreeView}
use Rattle.tree_steps.specs.Reports.{Reports, state_in}
use Rattle.tree_steps.specs.TreeSteps.{TreeFacts, followed, stayed, state_of, has_kind, trees_after}
use Rattle.tree_steps.specs.TreeEnds.{trees_end}
use Rattle.cluster_tree.specs.StandingTrees.{trees_in, trees_of, cluster_named, standing, state_after, cluster_after, clusters_after, entries_of, view_in, views_of, DifferAt, stands_in}
use Rattle.tree_steps.specs.Users.{UserList, users_at, ReadsLeaves, IsSoundTree, MarksUsers}
use Rattle.cluster_tree.specs.ClusterUsers.{IsSound, AreRead, AreRising, AreIndexed, OthersStay, AreStepped}
use Rattle.tree_steps.specs.Agree.{AgreeOn}
use Rattle.cluster_tree.specs.ViewChanges.{ArePickable}
use Rattle.weighted_lb.specs.Pick.{IsPickable}
use Rattle.std.proofs.lemmas.List.Elements.{All-map}
use Rattle.tree_steps.proofs.PickLemmas.{tree_pickable}
use Rattle.tree_steps.proofs.NameLemmas.{each_once}
use Rattle.tree_steps.proofs.QuietLemmas.{stand_before}
use Rattle.tree_steps.proofs.StayLemmas.{trees_stay, view_stays}

pub map_map : {A B C : Type 0} (g : B → C) (f : A → B) (xs : List A) → map g (map f xs) ≡ map (λ x. g (f x)) xs
map_map g f [] = refl
map_map g f (x ∷ xs) = ap (λ ys. g (f x) ∷ ys) (map_map g f xs)

pub map_same : {A B : Type 0} (f g : A → B) (xs : List A) → All (λ x. f x ≡ g x) xs → map f xs ≡ map g xs
map_same f g [] each = refl
map_same f g (x ∷ xs) each = rw (each 0 x (omega arith), map_same f g xs (λ k d lt. each (suc k) d (omega arith))) refl

map_itself : {A : Type 0} (xs : List A) → map (λ x. x) xs ≡ xs
map_itself [] = refl
map_itself (x ∷ xs) = ap (λ ys. x ∷ ys) (map_itself xs)

-- the configuration stays beside the trees
pub entries_kept : (now : Time) (r : Reports) (entries : List ClusterEntry) (old : List Cluster) → entries_of (clusters_after now r entries old) ≡ entries
entries_kept now r entries old = map_map (λ (c : Cluster). c.entry) (λ (e : ClusterEntry). cluster_after now r e (cluster_named e.name old)) entries ∙ map_itself entries

pub updated_with : (now : Time) (r : Reports) (entries : List ClusterEntry) (old clusters : List Cluster) → clusters ≡ clusters_after now r entries old → clusters ≡ clusters_after now r (entries_of clusters) old
updated_with now r entries old clusters is =
    is ∙ ap (λ (es : List ClusterEntry). clusters_after now r es old) (sym (ap entries_of is ∙ entries_kept now r entries old))

-- ---- a cluster is found by its own name

pub find_first : {X : Type 0} (p : X → Bool) (xs : List X) (k : ℕ) (d : X) → k < length xs → ((j : ℕ) → j < k → p (get_or xs j d) ≡ false) → p (get_or xs k d) ≡ true → find p xs ≡ Some (get_or xs k d)
find_first p [] k d lt others here = absurd (omega arith)
find_first p (x ∷ xs) zero d lt others here = ap (λ (b : Bool). cond b (Some x) (find p xs)) here
find_first p (x ∷ xs) (suc k) d lt others here =
    ap (λ (b : Bool). cond b (Some x) (find p xs)) (others 0 (omega arith)) ∙ find_first p xs k d (omega arith) (λ j less. others (suc j) (omega arith)) here

pub names_differ : (a b : List ℕ) → IsNameBefore a b → bytes_eq a b ≡ false
names_differ a b before = sym (is_eq-slice_cmp a b) ∙ ap is_eq before

pub named_itself : (clusters : List Cluster) (k : ℕ) (d : Cluster) → AreRising clusters → k < length clusters → cluster_named (get_or clusters k d).entry.name clusters ≡ Some (get_or clusters k d)
named_itself clusters k d rising lt =
    let name : List ℕ = (get_or clusters k d).entry.name in
    find_first (λ (c : Cluster). bytes_eq c.entry.name name) clusters k d lt
    (λ j less. names_differ (get_or clusters j d).entry.name name (rising j k d less lt)) ((bytes_eq-Decides name name).1 refl)

-- each cluster's own step is the step of all
pub steps_are : (now : Time) (r : Reports) (old : List Cluster) → AreRising old → map (λ c. cluster_after now r c.entry (Some c)) old ≡ clusters_after now r (entries_of old) old
steps_are now r old rising =
    map_same (λ (c : Cluster). cluster_after now r c.entry (Some c)) (λ (c : Cluster). cluster_after now r c.entry (cluster_named c.entry.name old)) old
    (λ k d lt. ap (λ (o : Option Cluster). cluster_after now r (get_or old k d).entry o) (sym (named_itself old k d rising lt))) ∙
    sym (map_map (λ (e : ClusterEntry). cluster_after now r e (cluster_named e.name old)) (λ (c : Cluster). c.entry) old)

-- ---- the leaves that the serving tree follows

settled_leaves : (P : Leaves → Type 0) (wait : Bool) (t u : TreeFacts) → P t.leaves → P u.leaves →
    (let ts : Pair TreeFacts = cond wait (record { serving = t; waiting = Some u }) (record { serving = u; waiting = None }) in P ts.serving.leaves)
settled_leaves P true t u one other = one
settled_leaves P false t u one other = other

serving_by : (P : Leaves → Type 0) (kind : Bool) (now : Time) (r : Reports) (L : Leaves) (old : Pair TreeFacts) → P L → P old.serving.leaves →
    (let ts : Pair TreeFacts = cond kind (record { serving = followed now r L (Some old.serving); waiting = None }) (settled state_of (stayed now r old.serving) (Some (followed now r L old.waiting))) in P ts.serving.leaves)
serving_by P true now r L old here before = here
serving_by P false now r L old here before =
    settled_leaves P (has_to_wait (state_of (stayed now r old.serving)) (state_of (followed now r L old.waiting))) (stayed now r old.serving) (followed now r L old.waiting) before here

serving_leaves : (P : Leaves → Type 0) (now : Time) (r : Reports) (L : Leaves) (old : Option (Pair TreeFacts)) → P L → IfSome old (λ ts. P ts.serving.leaves) → P (trees_after now r L old).serving.leaves
serving_leaves P now r L None here before = here
serving_leaves P now r L (Some old) here before = serving_by P (has_kind L old.serving) now r L old here before

trees_before : (P : Leaves → Type 0) (o : Option Cluster) → IfSome o (λ c. IfOk c.state (λ s. P s.trees.serving.leaves)) → IfSome (option_and_then trees_of o) (λ ts. P ts.serving.leaves)
trees_before P None before = tt
trees_before P (Some c) before = by c.state before
  where
    by : (state : Result Standing Reason) → IfOk state (λ s. P s.trees.serving.leaves) → IfSome (trees_in state) (λ ts. P ts.serving.leaves)
    by (Ok s) holds = holds
    by (Err reason) holds = tt

pub serving_after : (P : Leaves → Type 0) (now : Time) (r : Reports) (state : Result Leaves Reason) (o : Option Cluster) → IfOk state P → IfSome o (λ c. IfOk c.state (λ s. P s.trees.serving.leaves)) →
    IfOk (state_after now r state (option_and_then trees_of o)) (λ s. P s.trees.serving.leaves)
serving_after P now r (Ok L) o here before = serving_leaves P now r L (option_and_then trees_of o) here (trees_before P o before)
serving_after P now r (Err reason) o here before = tt

find_holds : {X : Type 0} (P : X → Type 0) (p : X → Bool) (xs : List X) → All P xs → IfSome (find p xs) P
find_holds P p [] all = tt
find_holds P p (x ∷ xs) all = by (p x) (all 0 x (omega arith)) (find_holds P p xs (λ k d lt. all (suc k) d (omega arith)))
  where
    by : (b : Bool) → P x → IfSome (find p xs) P → IfSome (cond b (Some x) (find p xs)) P
    by true here rest = here
    by false here rest = rest

pub both_hold : {A E : Type 0} (P Q : A → Type 0) (result : Result A E) → IfOk result P → IfOk result Q → IfOk result (λ x. P x × Q x)
both_hold P Q (Ok x) one other = (one, other)
both_hold P Q (Err e) one other = tt

pub first_holds : {A E : Type 0} (P Q : A → Type 0) (result : Result A E) → IfOk result (λ x. P x × Q x) → IfOk result P
first_holds P Q (Ok x) both = both.0
first_holds P Q (Err e) both = tt

-- ---- what stays true of all clusters

abbrev after_entry : Time → Reports → List Cluster → ClusterEntry → Cluster
after_entry now r old entry = cluster_after now r entry (cluster_named entry.name old)

lawful_serving : (users : UserList) (old : List Cluster) → ((place : ℕ) (d : Cluster) → place < length old → IsSound users place (get_or old place d)) → All (λ c. IfOk c.state (λ s. AreLawfulLeaves s.trees.serving.leaves)) old
lawful_serving users old sound = λ k d lt.
    first_holds (λ (s : Standing). AreLawfulLeaves s.trees.serving.leaves) (λ (s : Standing). ReadsLeaves users k s.trees.serving.leaves.leaves) (get_or old k d).state (sound k d lt).1

pub indexed_after : (now : Time) (r : Reports) (entries : List ClusterEntry) (before users : UserList) (old clusters : List Cluster) → All (λ e. IfOk e.state AreLawfulLeaves) entries → AllPairs (λ a b. IsNameBefore a.name b.name) entries →
    AreIndexed before old → clusters ≡ clusters_after now r entries old → AreRead users clusters → AreIndexed users clusters
indexed_after now r entries before users old clusters lawful rising indexed is read =
    let g : ClusterEntry → Cluster = after_entry now r old in
    let long : length clusters ≡ length entries = ap length is ∙ length-map entries g in
    let at : (k : ℕ) (d : Cluster) → k < length clusters → get_or clusters k d ≡ g (get_or entries k d.entry) =
    λ k d lt. ap (λ (cs : List Cluster). get_or cs k d) is ∙ get_or-map g entries k d.entry d (omega (arith, long, lt)) in
    record {
      rising = λ i j d less lt.
          let two = rising i j d.entry less (omega (arith, long, lt)) in
          let first : (get_or entries i d.entry).name ≡ (get_or clusters i d).entry.name = ap (λ (c : Cluster). c.entry.name) (sym (at i d (omega (arith, less, lt)))) in
          let second : (get_or entries j d.entry).name ≡ (get_or clusters j d).entry.name = ap (λ (c : Cluster). c.entry.name) (sym (at j d lt)) in
          subst (λ (n : List ℕ). IsNameBefore n (get_or clusters j d).entry.name) first (subst (λ (n : List ℕ). IsNameBefore (get_or entries i d.entry).name n) second two);
      sound = λ k d lt.
          let entry : ClusterEntry = get_or entries k d.entry in
          let o : Option Cluster = cluster_named entry.name old in
          let here : IfOk entry.state AreLawfulLeaves = lawful k d.entry (omega (arith, long, lt)) in
          let served = serving_after AreLawfulLeaves now r entry.state o here (find_holds (λ (c : Cluster). IfOk c.state (λ s. AreLawfulLeaves s.trees.serving.leaves)) (λ (c : Cluster). bytes_eq c.entry.name entry.name) old (lawful_serving before old indexed.sound)) in
          let reads = read k d lt in
          let c : Cluster = get_or clusters k d in
          let here_c : IfOk c.entry.state AreLawfulLeaves = subst (λ (x : Cluster). IfOk x.entry.state AreLawfulLeaves) (sym (at k d lt)) here in
          let served_c : IfOk c.state (λ s. AreLawfulLeaves s.trees.serving.leaves) = subst (λ (x : Cluster). IfOk x.state (λ s. AreLawfulLeaves s.trees.serving.leaves)) (sym (at k d lt)) served in (
            both_hold AreLawfulLeaves (λ (L : Leaves). ReadsLeaves users k L.leaves) c.entry.state here_c reads.0,
            both_hold (λ (s : Standing). AreLawfulLeaves s.trees.serving.leaves) (λ (s : Standing). ReadsLeaves users k s.trees.serving.leaves.leaves) c.state served_c reads.1,
          );
    }

stepped_sound : (users : UserList) (now : Time) (r : Reports) (place : ℕ) (old new : Cluster) → (new ≡ old) ⊎ (new ≡ cluster_after now r old.entry (Some old)) → IsSound users place old → IsSound users place new
stepped_sound users now r place old new (inl same) sound = subst (IsSound users place) (sym same) sound
stepped_sound users now r place old new (inr step) sound =
    subst (IsSound users place) (sym step) (sound.0, serving_after (IsSoundTree users place) now r old.entry.state (Some old) sound.0 sound.1)

stepped_entry : (now : Time) (r : Reports) (old new : Cluster) → (new ≡ old) ⊎ (new ≡ cluster_after now r old.entry (Some old)) → new.entry ≡ old.entry
stepped_entry now r old new (inl same) = ap (λ (c : Cluster). c.entry) same
stepped_entry now r old new (inr step) = ap (λ (c : Cluster). c.entry) step

pub indexed_stepped : (users : UserList) (now : Time) (r : Reports) (old new : List Cluster) → AreIndexed users old → AreStepped now r old new → AreIndexed users new
indexed_stepped users now r old new indexed stepped =
    let count = stepped.count in
    let entry : (k : ℕ) (d : Cluster) → k < length old → (get_or old k d).entry.name ≡ (get_or new k d).entry.name = λ k d lt. sym (ap (λ (e : ClusterEntry). e.name) (stepped_entry now r (get_or old k d) (get_or new k d) (stepped.each k d lt))) in
    record {
      rising = λ i j d less lt.
          subst (λ (n : List ℕ). IsNameBefore n (get_or new j d).entry.name) (entry i d (omega (arith, count, less, lt)))
          (subst (λ (n : List ℕ). IsNameBefore (get_or old i d).entry.name n) (entry j d (omega (arith, count, lt))) (indexed.rising i j d less (omega (arith, count, lt))));
      sound = λ k d lt. stepped_sound users now r k (get_or old k d) (get_or new k d) (stepped.each k d (omega (arith, count, lt))) (indexed.sound k d (omega (arith, count, lt)));
    }

-- the same clusters, once it was made anew which of them read which addresses
pub indexed_anew : (before users : UserList) (clusters : List Cluster) → AreIndexed before clusters → AreRead users clusters → AreIndexed users clusters
indexed_anew before users clusters indexed read = record {
  rising = indexed.rising;
  sound = λ k d lt.
      let c : Cluster = get_or clusters k d in
      let was = indexed.sound k d lt in
      let reads = read k d lt in (
        both_hold AreLawfulLeaves (λ (L : Leaves). ReadsLeaves users k L.leaves) c.entry.state (first_holds AreLawfulLeaves (λ (L : Leaves). ReadsLeaves before k L.leaves) c.entry.state was.0) reads.0,
        both_hold (λ (s : Standing). AreLawfulLeaves s.trees.serving.leaves) (λ (s : Standing). ReadsLeaves users k s.trees.serving.leaves.leaves) c.state
            (first_holds (λ (s : Standing). AreLawfulLeaves s.trees.serving.leaves) (λ (s : Standing). ReadsLeaves before k s.trees.serving.leaves.leaves) c.state was.1) reads.1,
      );
}

pub all_lawful : (users : UserList) (clusters : List Cluster) → AreIndexed users clusters → All (λ c. IfOk c.entry.state AreLawfulLeaves) clusters
all_lawful users clusters indexed = λ k d lt. first_holds AreLawfulLeaves (λ (L : Leaves). ReadsLeaves users k L.leaves) (get_or clusters k d).entry.state (indexed.sound k d lt).0

-- ---- a cluster that nothing touches

agree_on : (users : UserList) (place : ℕ) (r s : Reports) (leaves : List Leaf) → ReadsLeaves users place leaves → ((a : List ℕ) → Contains (users_at users a) place → state_in s a ≡ state_in r a) → AgreeOn r s leaves
agree_on users place r s leaves reads agree = λ i d lt j e within k a inside. agree _ (reads i d lt j e within k a inside)

before_end : (now : Time) (end : ℕ) → nat_lt now.0 end ≡ true → now.0 < end
before_end now end on = grind (arith, nat_tests)

ok_stays : (users : UserList) (place : ℕ) (last now : Time) (r s : Reports) (L : Leaves) (old : Option (Pair TreeFacts)) → last.0 ≤ now.0 → ((a : List ℕ) → Contains (users_at users a) place → state_in s a ≡ state_in r a) →
    IsSoundTree users place L → IsSoundTree users place (trees_after last r L old).serving.leaves → nat_lt now.0 (trees_end (trees_after last r L old)) ≡ true →
    standing s (trees_after now s L (Some (trees_after last r L old))) ≡ standing r (trees_after last r L old)
ok_stays users place last now r s L old le agree here served on =
    let ts : Pair TreeFacts = trees_after last r L old in
    let other = agree_on users place r s ts.serving.leaves.leaves served.1 agree in
    let stay = trees_stay last now r s L old le (agree_on users place r s L.leaves here.1 agree) other (each_once L here.0) (each_once ts.serving.leaves served.0) (stand_before now ts (before_end now (trees_end ts) on)) in
    let make : TreeView → Standing = λ v. record { trees = ts; view = v; until = record { 0 = trees_end ts } } in
    ap (λ (x : Pair TreeFacts). standing s x) stay ∙ ap make (view_stays r s ts other)

state_stays : (users : UserList) (place : ℕ) (last now : Time) (r s : Reports) (state : Result Leaves Reason) (old : Option (Pair TreeFacts)) (here : Result Standing Reason) → last.0 ≤ now.0 →
    ((a : List ℕ) → Contains (users_at users a) place → state_in s a ≡ state_in r a) → here ≡ state_after last r state old → IfOk state (IsSoundTree users place) → IfOk here (λ st. IsSoundTree users place st.trees.serving.leaves) →
    stands_in now here ≡ true → state_after now s state (trees_in here) ≡ here
state_stays users place last now r s (Ok L) old here le agree is sound served on =
    let made : Result Standing Reason = Ok (standing r (trees_after last r L old)) in
    let served_m : IfOk made (λ st. IsSoundTree users place st.trees.serving.leaves) = subst (λ (x : Result Standing Reason). IfOk x (λ st. IsSoundTree users place st.trees.serving.leaves)) is served in
    let on_m : stands_in now made ≡ true = subst (λ (x : Result Standing Reason). stands_in now x ≡ true) is on in
    let stays : state_after now s (Ok L) (trees_in made) ≡ made = ap (λ (st : Standing). let x : Result Standing Reason = Ok st in x) (ok_stays users place last now r s L old le agree sound served_m on_m) in
    subst (λ (x : Result Standing Reason). state_after now s (Ok L) (trees_in x) ≡ x) (sym is) stays
state_stays users place last now r s (Err reason) old here le agree is sound served on = sym is

-- a cluster that reads no address whose state differs, and of which no timer has ended
pub unread_stays : (users : UserList) (changed : List (List ℕ)) (last now : Time) (r s : Reports) (clusters before : List Cluster) → clusters ≡ clusters_after last r (entries_of clusters) before → DifferAt changed r s →
    (place : ℕ) (d : Cluster) → place < length clusters → IsSound users place (get_or clusters place d) → ((a : List ℕ) → Contains changed a → Contains (users_at users a) place → ⊥) → stands_in now (get_or clusters place d).state ≡ true → last.0 ≤ now.0 →
    cluster_after now s (get_or clusters place d).entry (Some (get_or clusters place d)) ≡ get_or clusters place d
unread_stays users changed last now r s clusters before is differ place d lt sound unread on le =
    let c : Cluster = get_or clusters place d in
    let entries : List ClusterEntry = entries_of clusters in
    let g : ClusterEntry → Cluster = after_entry last r before in
    let within : place < length entries = rw (length-map clusters (λ (x : Cluster). x.entry)) lt in
    let made : c ≡ g c.entry =
    ap (λ (cs : List Cluster). get_or cs place d) is ∙ (get_or-map g entries place d.entry d within ∙ ap g (get_or-map (λ (x : Cluster). x.entry) clusters place d d.entry lt)) in
    let agree : (a : List ℕ) → Contains (users_at users a) place → state_in s a ≡ state_in r a = λ a reads. differ a (λ has. unread a has reads) in
    let o : Option (Pair TreeFacts) = option_and_then trees_of (cluster_named c.entry.name before) in
    let stays = state_stays users place last now r s c.entry.state o c.state le agree (ap (λ (x : Cluster). x.state) made) sound.0 sound.1 on in
    let make : Result Standing Reason → Cluster = λ st. record { entry = c.entry; state = st } in
    ap make stays

pub others_stay : (users : UserList) (changed : List (List ℕ)) (marks : List Bool) (last now : Time) (r s : Reports) (clusters before : List Cluster) → AreIndexed users clusters → MarksUsers users changed marks → length marks ≡ length clusters →
    clusters ≡ clusters_after last r (entries_of clusters) before → DifferAt changed r s → OthersStay last now s marks clusters
others_stay users changed marks last now r s clusters before indexed marked long is differ = λ place d lt unmarked on le.
    unread_stays users changed last now r s clusters before is differ place d lt (indexed.sound place d lt)
    (λ a has reads. (let clash : true ≡ false = sym (marked a place has reads (omega (arith, long, lt))) ∙ unmarked in cc)) on le

pub record IsNotDue (marked quiet : Bool) (now last : ℕ) : Type 0 where
  pub unmarked : marked ≡ false
  pub idle : quiet ≡ true
  pub le : last ≤ now

pub not_due : (marked quiet : Bool) (now last : ℕ) (due : Bool) → due ≡ (marked || not quiet || nat_lt now last) → due ≡ false → IsNotDue marked quiet now last
not_due true quiet now last due is idle = absurd (let clash : true ≡ false = sym is ∙ idle in cc)
not_due false false now last due is idle = absurd (let clash : true ≡ false = sym is ∙ idle in cc)
not_due false true now last due is idle =
    let later : nat_lt now last ≡ false = sym is ∙ idle in
    record { unmarked = refl; idle = refl; le = grind (arith, nat_tests) }

-- one more cluster after an update
pub clusters_more : (now : Time) (r : Reports) (old : List Cluster) (entries : List ClusterEntry) (i : ℕ) (entry : ClusterEntry) (clusters newer : List Cluster) (cluster : Cluster) → i < length entries → entry ≡ get_or entries i entry →
    clusters ≡ clusters_after now r (take i entries) old → newer ≡ clusters ++ cluster ∷ [] → cluster ≡ cluster_after now r entry (cluster_named entry.name old) → newer ≡ clusters_after now r (take (i + 1) entries) old
clusters_more now r old entries i entry clusters newer cluster lt is was more made =
    let g : ClusterEntry → Cluster = after_entry now r old in
    let all : map g (take (i + 1) entries) ≡ map g (take i entries) ++ g entry ∷ [] =
    ap (λ (es : List ClusterEntry). map g es) (take_more entries i entry lt ∙ ap (λ (e : ClusterEntry). take i entries ++ e ∷ []) (sym is)) ∙ map-append g (take i entries) (entry ∷ []) in
    more ∙ (ap (λ (cs : List Cluster). cs ++ cluster ∷ []) was ∙ (ap (λ (c : Cluster). map g (take i entries) ++ c ∷ []) made ∙ sym all))

-- ---- picks can be made from what is seen

state_pickable : (now : Time) (r : Reports) (state : Result Leaves Reason) (old : Option (Pair TreeFacts)) (here : Result Standing Reason) → here ≡ state_after now r state old → IfOk here (λ st. AreLawfulLeaves st.trees.serving.leaves) →
    IfOk (view_in here) (λ view. IsPickable view.picker)
state_pickable now r (Ok L) old here is lawful =
    let made : Result Standing Reason = Ok (standing r (trees_after now r L old)) in
    let lawful_m : IfOk made (λ st. AreLawfulLeaves st.trees.serving.leaves) = subst (λ (x : Result Standing Reason). IfOk x (λ st. AreLawfulLeaves st.trees.serving.leaves)) is lawful in
    let t : TreeFacts = (trees_after now r L old).serving in
    subst (λ (x : Result Standing Reason). IfOk (view_in x) (λ view. IsPickable view.picker)) (sym is) (tree_pickable r t.leaves.leaves t.chosen lawful_m.endpoints)
state_pickable now r (Err reason) old here is lawful = subst (λ (x : Result Standing Reason). IfOk (view_in x) (λ view. IsPickable view.picker)) (sym is) tt

pub views_pickable : (users : UserList) (now : Time) (r : Reports) (clusters before : List Cluster) → AreIndexed users clusters → clusters ≡ clusters_after now r (entries_of clusters) before → ArePickable (views_of clusters)
views_pickable users now r clusters before indexed is =
    All-map (λ (seen : Result TreeView Reason). IfOk seen (λ view. IsPickable view.picker)) (λ (c : Cluster). view_in c.state) clusters (λ k d lt.
    let c : Cluster = get_or clusters k d in
    let entries : List ClusterEntry = entries_of clusters in
    let g : ClusterEntry → Cluster = after_entry now r before in
    let within : k < length entries = rw (length-map clusters (λ (x : Cluster). x.entry)) lt in
    let made : c ≡ g c.entry =
    ap (λ (cs : List Cluster). get_or cs k d) is ∙ (get_or-map g entries k d.entry d within ∙ ap g (get_or-map (λ (x : Cluster). x.entry) clusters k d d.entry lt)) in
    let o : Option (Pair TreeFacts) = option_and_then trees_of (cluster_named c.entry.name before) in
    state_pickable now r c.entry.state o c.state (ap (λ (x : Cluster). x.state) made) (lawful_serving users clusters indexed.sound k d lt))
