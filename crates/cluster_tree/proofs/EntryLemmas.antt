-- Entries that are put in the places of their clusters.
use Rattle.std.proofs.Common.{◌≡◌, ◌<◌, ◌≤◌, ◌+◌, ℕ, Bool, true, false, List, length, map, get_or, set, replicate, Option, Some, None, Result, Ok, Err, ◌⊎◌, inl, inr, refl, sym, ap, ◌∙◌, subst, arith}
use Rattle.std.specs.Prelude.{◌↔◌, All, AllPairs, Contains, IfOk, IfSome, OnOk, option_map, slice_get}
use Rattle.std.proofs.lemmas.Bool.{cases_eq, cases_lt}
use Rattle.std.proofs.lemmas.Option.{same_Some, slice_get-get_or}
use Rattle.std.proofs.lemmas.List.{get_or-map, get_or-set_other, get_or-set_same, get_or_default, length-map, length-replicate, length-set, same_lists}
use Rattle.xc_base.specs.declared.names.Time.{Time}
use Rattle.xc_base.specs.declared.reason.Reason.{Reason}
use Rattle.xds_config.specs.declared.config.Leaves.{Leaves}
use Rattle.xds_config.specs.declared.config.ClusterEntry.{ClusterEntry}
use Rattle.xds_config.specs.Configs.{AreLawfulLeaves, IsNameBefore}
use Rattle.place_marks.specs.Marks.{AreRising as AreRisingPlaces}
use Rattle.tree_timers.specs.EndsKept.{Ends}
use Rattle.tree_steps.specs.declared.tree_view.TreeView.{TreeView}
use Rattle.tree_steps.specs.Reports.{Reports}
use Rattle.tree_steps.specs.Users.{UserList, Grows, ReadsLeaves, IsSoundTree}
use Rattle.tree_steps.proofs.UserLemmas.{entry_grown, grown_leaves, grows_on}
use Rattle.cluster_tree.specs.declared.cluster_trees.Cluster.{Cluster}
use Rattle.cluster_tree.specs.declared.cluster_trees.Standing.{Standing}
use Rattle.cluster_tree.specs.declared.cluster_entries.EntriesPut.{EntriesPut}
use Rattle.cluster_tree.specs.StandingTrees.{Forest, ChangesAt, cluster_after, cluster_named, clusters_after, entries_of, forest_after, state_after, trees_in}
use Rattle.cluster_tree.specs.ClusterUsers.{AreIndexed, AreRising, EntriesStay, StandBut}
use Rattle.cluster_tree.specs.ClusterTimers.{AreKept, IsTimed}
use Rattle.cluster_tree.specs.PutEntries.{ArePut, AreReadAt, ChangesBut, IsPutAt, IsTakenAt, StandsFor, with_entry}
use Rattle.cluster_tree.specs.ViewChanges.{seen_of, seen_named, IsChangeMark, MarkChanges, MarkChangesInPlace}
use Rattle.cluster_tree.proofs.ForestLemmas.{map_map, map_same, named_itself}
use Rattle.cluster_tree.proofs.StepLemmas.{none_marked}

-- ---- one entry

pub put_made : (place : ℕ) (entry : ClusterEntry) (old new : EntriesPut) (x next : Cluster) → place < length old.clusters.items → x ≡ get_or old.clusters.items place x → next ≡ with_entry entry x → new.clusters.items ≡ set old.clusters.items place next →
    new.put ≡ set old.put place true → IfOk entry.state (λ leaves. ReadsLeaves new.users place leaves.leaves) → Grows old.users new.users → IsPutAt place entry old new
put_made place entry old new x next lt is made put marked read grows = record {
  within = lt;
  count = ap (λ (cs : List Cluster). length cs) put ∙ length-set old.clusters.items place next;
  here = λ d.
      ap (λ (cs : List Cluster). get_or cs place d) put
      ∙ (get_or-set_same old.clusters.items place next d lt ∙ (made ∙ ap (with_entry entry) (is ∙ get_or_default old.clusters.items place x d lt)));
  others = λ other d differ. ap (λ (cs : List Cluster). get_or cs other d) put ∙ get_or-set_other old.clusters.items place other next d differ;
  put = marked;
  read = read;
  grows = grows;
}

pub taken_by : (place : ℕ) (o : Option ClusterEntry) (entry : ClusterEntry) (old new : EntriesPut) → o ≡ Some entry → IsPutAt place entry old new → IsTakenAt place o old new
taken_by place o entry old new is put = record {
  stands = λ d. subst (λ (x : Option ClusterEntry). StandsFor x (get_or new.clusters.items place d)) (sym is) (ap (λ (c : Cluster). c.entry) (put.here d));
  put = inr (entry, put);
}

pub ok_holds : {A E : Type 0} (P Q : Type 0) (result : Result A E) → (P → Q) → OnOk result P → OnOk result Q
ok_holds P Q (Ok x) next holds = next holds
ok_holds P Q (Err e) next holds = tt

pub taken_none : (place : ℕ) (o : Option ClusterEntry) (old : EntriesPut) → ((d : Cluster) → StandsFor o (get_or old.clusters.items place d)) → IsTakenAt place o old old
taken_none place o old stands = record { stands = stands; put = inl refl }

-- ---- as far as the loop has come

pub record ArePutSoFar (entries : List ClusterEntry) (places : List ℕ) (i : ℕ) (old new : EntriesPut) : Type 0 where
  pub count : length new.clusters.items ≡ length old.clusters.items
  pub marks : length new.put ≡ length new.clusters.items
  pub trees : (place : ℕ) (d : Cluster) → (get_or new.clusters.items place d).state ≡ (get_or old.clusters.items place d).state
  pub others : (place : ℕ) (d : Cluster) → get_or new.put place false ≡ false → get_or new.clusters.items place d ≡ get_or old.clusters.items place d
  pub among : (place : ℕ) → get_or new.put place false ≡ true → Contains places place
  pub behind : (place k d : ℕ) → get_or new.put place false ≡ true → i ≤ k → k < length places → place < get_or places k d
  pub stands : (k : ℕ) (d : Cluster) → k < i → StandsFor (slice_get entries (get_or places k 0)) (get_or new.clusters.items (get_or places k 0) d)
  pub read : AreReadAt new.put new.users new.clusters.items
  pub grows : Grows old.users new.users

pub puts_begin : (entries : List ClusterEntry) (places : List ℕ) (old : EntriesPut) → old.put ≡ replicate (length old.clusters.items) false → ArePutSoFar entries places 0 old old
puts_begin entries places old none = record {
  count = refl;
  marks = ap (λ (ms : List Bool). length ms) none ∙ length-replicate (length old.clusters.items) false;
  trees = λ place d. refl;
  others = λ place d off. refl;
  among = λ place on. absurd (never place on);
  behind = λ place k d on. absurd (never place on);
  stands = λ k d lt. absurd (omega (arith, lt));
  read = λ place d lt on. absurd (never place on);
  grows = λ address place reads. reads;
}
  where
    never : (place : ℕ) → get_or old.put place false ≡ true → ⊥
    never place on = let clash : true ≡ false = sym on ∙ none_marked old.put (length old.clusters.items) none place in cc clash

-- no place from the next one on is marked
pub none_put : (entries : List ClusterEntry) (places : List ℕ) (i place : ℕ) (old new : EntriesPut) → ArePutSoFar entries places i old new → i < length places → place ≡ get_or places i place → (later : ℕ) → place ≤ later → get_or new.put later false ≡ false
none_put entries places i place old new are lt is later le = by (get_or new.put later false) refl
  where
    by : (mark : Bool) → get_or new.put later false ≡ mark → mark ≡ false
    by false off = refl
    by true on = let less = are.behind later i place on (omega arith) lt in absurd (omega (arith, less, is, le))

-- the entry at the next place
module _ (entries : List ClusterEntry) (places : List ℕ) (i place : ℕ) (old mid new : EntriesPut) (lt : i < length places) (is : place ≡ get_or places i place) (rising : AreRisingPlaces places)
    (are : ArePutSoFar entries places i old mid) (took : IsTakenAt place (slice_get entries place) mid new) where
  at_zero : place ≡ get_or places i 0
  at_zero = is ∙ get_or_default places i place 0 lt

  -- what stands at the places so far, where all others are as before
  stands_so_far : ((other : ℕ) (d : Cluster) → (other ≡ place → ⊥) → get_or new.clusters.items other d ≡ get_or mid.clusters.items other d) → (k : ℕ) (d : Cluster) → k < i + 1 →
      StandsFor (slice_get entries (get_or places k 0)) (get_or new.clusters.items (get_or places k 0) d)
  stands_so_far others k d less = by (cases_eq (get_or places k 0) place)
    where
      by : (get_or places k 0 ≡ place) ⊎ (get_or places k 0 ≡ place → ⊥) → StandsFor (slice_get entries (get_or places k 0)) (get_or new.clusters.items (get_or places k 0) d)
      by (inl same) = subst (λ (p : ℕ). StandsFor (slice_get entries p) (get_or new.clusters.items p d)) (sym same) (took.stands d)
      by (inr differ) = among (cases_lt k i)
        where
          among : (k < i) ⊎ (i ≤ k) → StandsFor (slice_get entries (get_or places k 0)) (get_or new.clusters.items (get_or places k 0) d)
          among (inl before) = subst (λ (c : Cluster). StandsFor (slice_get entries (get_or places k 0)) c) (sym (others (get_or places k 0) d differ)) (are.stands k d before)
          among (inr past) = let last : k ≡ i = omega (arith, less, past) in absurd (differ (ap (λ (n : ℕ). get_or places n 0) last ∙ sym at_zero))

  -- nothing was put
  still : new ≡ mid → ArePutSoFar entries places (i + 1) old new
  still same =
      let stands = stands_so_far (λ other d differ. ap (λ (x : EntriesPut). get_or x.clusters.items other d) same) in
      let marked : (p : ℕ) → get_or new.put p false ≡ true → get_or mid.put p false ≡ true = λ p on. ap (λ (x : EntriesPut). get_or x.put p false) (sym same) ∙ on in
      record {
        count = ap (λ (x : EntriesPut). length x.clusters.items) same ∙ are.count;
        marks = subst (λ (x : EntriesPut). length x.put ≡ length x.clusters.items) (sym same) are.marks;
        trees = λ p d. ap (λ (x : EntriesPut). (get_or x.clusters.items p d).state) same ∙ are.trees p d;
        others = λ p d off. ap (λ (x : EntriesPut). get_or x.clusters.items p d) same ∙ are.others p d (ap (λ (x : EntriesPut). get_or x.put p false) (sym same) ∙ off);
        among = λ p on. are.among p (marked p on);
        behind = λ p k d on le within. are.behind p k d (marked p on) (omega (arith, le)) within;
        stands = stands;
        read = subst (λ (x : EntriesPut). AreReadAt x.put x.users x.clusters.items) (sym same) are.read;
        grows = subst (λ (x : EntriesPut). Grows old.users x.users) (sym same) are.grows;
      }

  module _ (entry : ClusterEntry) (put : IsPutAt place entry mid new) where
    mark_here : get_or new.put place false ≡ true
    mark_here =
        let within = put.within in
        let long = are.marks in
        ap (λ (ms : List Bool). get_or ms place false) put.put ∙ get_or-set_same mid.put place true false (omega (arith, within, long))

    mark_there : (p : ℕ) → (p ≡ place → ⊥) → get_or new.put p false ≡ get_or mid.put p false
    mark_there p differ = ap (λ (ms : List Bool). get_or ms p false) put.put ∙ get_or-set_other mid.put place p true false differ

    trees_at : (p : ℕ) (d : Cluster) → (p ≡ place) ⊎ (p ≡ place → ⊥) → (get_or new.clusters.items p d).state ≡ (get_or old.clusters.items p d).state
    trees_at p d (inl same) =
        subst (λ (n : ℕ). (get_or new.clusters.items n d).state ≡ (get_or old.clusters.items n d).state) (sym same) (ap (λ (c : Cluster). c.state) (put.here d) ∙ are.trees place d)
    trees_at p d (inr differ) = ap (λ (c : Cluster). c.state) (put.others p d differ) ∙ are.trees p d

    others_at : (p : ℕ) (d : Cluster) → get_or new.put p false ≡ false → (p ≡ place) ⊎ (p ≡ place → ⊥) → get_or new.clusters.items p d ≡ get_or old.clusters.items p d
    others_at p d off (inl same) = absurd (let clash : true ≡ false = sym mark_here ∙ (ap (λ (n : ℕ). get_or new.put n false) (sym same) ∙ off) in cc clash)
    others_at p d off (inr differ) = put.others p d differ ∙ are.others p d (sym (mark_there p differ) ∙ off)

    among_at : (p : ℕ) → get_or new.put p false ≡ true → (p ≡ place) ⊎ (p ≡ place → ⊥) → Contains places p
    among_at p on (inl same) = subst (λ (n : ℕ). Contains places n) (sym same) (i, lt, sym is)
    among_at p on (inr differ) = are.among p (sym (mark_there p differ) ∙ on)

    behind_at : (p k d : ℕ) → get_or new.put p false ≡ true → i + 1 ≤ k → k < length places → (p ≡ place) ⊎ (p ≡ place → ⊥) → p < get_or places k d
    behind_at p k d on le within (inl same) =
        let less = rising i k d (omega (arith, le)) within in
        let at : place ≡ get_or places i d = is ∙ get_or_default places i place d lt in
        omega (arith, less, at, same)
    behind_at p k d on le within (inr differ) = are.behind p k d (sym (mark_there p differ) ∙ on) (omega (arith, le)) within

    read_at : (p : ℕ) (d : Cluster) → p < length new.clusters.items → get_or new.put p false ≡ true → (p ≡ place) ⊎ (p ≡ place → ⊥) → IfOk (get_or new.clusters.items p d).entry.state (λ leaves. ReadsLeaves new.users p leaves.leaves)
    read_at p d within on (inl same) =
        subst (λ (n : ℕ). IfOk (get_or new.clusters.items n d).entry.state (λ leaves. ReadsLeaves new.users n leaves.leaves)) (sym same)
        (subst (λ (c : Cluster). IfOk c.entry.state (λ leaves. ReadsLeaves new.users place leaves.leaves)) (sym (put.here d)) put.read)
    read_at p d within on (inr differ) =
        let count = put.count in
        subst (λ (c : Cluster). IfOk c.entry.state (λ leaves. ReadsLeaves new.users p leaves.leaves)) (sym (put.others p d differ))
        (entry_grown mid.users new.users p (get_or mid.clusters.items p d).entry.state put.grows (are.read p d (omega (arith, within, count)) (sym (mark_there p differ) ∙ on)))

    was_put : ArePutSoFar entries places (i + 1) old new
    was_put = record {
      count = put.count ∙ are.count;
      marks = ap (λ (ms : List Bool). length ms) put.put ∙ (length-set mid.put place true ∙ (are.marks ∙ sym put.count));
      trees = λ p d. trees_at p d (cases_eq p place);
      others = λ p d off. others_at p d off (cases_eq p place);
      among = λ p on. among_at p on (cases_eq p place);
      behind = λ p k d on le within. behind_at p k d on le within (cases_eq p place);
      stands = stands_so_far put.others;
      read = λ p d within on. read_at p d within on (cases_eq p place);
      grows = grows_on old.users mid.users new.users are.grows put.grows;
    }

  pub puts_on : ArePutSoFar entries places (i + 1) old new
  puts_on = by took.put
    where
      by : (new ≡ mid) ⊎ ((e : ClusterEntry) × IsPutAt place e mid new) → ArePutSoFar entries places (i + 1) old new
      by (inl same) = still same
      by (inr (e, put)) = was_put e put

-- ---- once all are passed

pub same_count : (clusters : List Cluster) (entries : List ClusterEntry) → map (λ e. e.name) entries ≡ map (λ c. c.entry.name) clusters → length entries ≡ length clusters
same_count clusters entries names =
    sym (length-map entries (λ (e : ClusterEntry). e.name)) ∙ (ap (λ (ns : List (List ℕ)). length ns) names ∙ length-map clusters (λ (c : Cluster). c.entry.name))

some_cluster : ClusterEntry → Cluster
some_cluster entry = record { entry = entry; state = Err Reason.Failing }

pub puts_end : (entries : List ClusterEntry) (marks : List Bool) (places : List ℕ) (i : ℕ) (old new : EntriesPut) → ((place : ℕ) → (get_or marks place false ≡ true) ↔ Contains places place) → length places ≤ i → EntriesStay marks old.clusters.items entries →
    map (λ e. e.name) entries ≡ map (λ c. c.entry.name) old.clusters.items → ArePutSoFar entries places i old new → ArePut new.put entries old.clusters.items new.clusters.items
puts_end entries marks places i old new marked past stay names are = record {
  entries_are = same_lists (entries_of new.clusters.items) entries (length-map new.clusters.items (λ (c : Cluster). c.entry) ∙ (are.count ∙ sym (same_count old.clusters.items entries names)))
      (λ k d lt. each k d (subst (λ (n : ℕ). k < n) (length-map new.clusters.items (λ (c : Cluster). c.entry)) lt));
  count = are.count;
  trees = λ place d lt. are.trees place d;
  stand = record { count = are.marks; each = λ place d lt off. let count = are.count in (omega (arith, lt, count), are.others place d off) };
}
  where
    by_stand : (o : Option ClusterEntry) (cluster : Cluster) (e : ClusterEntry) → o ≡ Some e → StandsFor o cluster → cluster.entry ≡ e
    by_stand None cluster e none stands = absurd (cc none)
    by_stand (Some x) cluster e same stands = stands ∙ same_Some x e same

    stands_at : (k : ℕ) (x : Cluster) (e : ClusterEntry) → k < length new.clusters.items → slice_get entries k ≡ Some e → (mark : Bool) → get_or marks k false ≡ mark → (get_or new.clusters.items k x).entry ≡ e
    stands_at k x e lt there true on =
        let among : Contains places k = (marked k).0 on in
        let own : get_or places among.0 0 ≡ k = get_or_default places among.0 0 k among.1 ∙ among.2 in
        by_stand (slice_get entries k) (get_or new.clusters.items k x) e there
        (subst (λ (p : ℕ). StandsFor (slice_get entries p) (get_or new.clusters.items p x)) own (are.stands among.0 x (let within = among.1 in omega (arith, past, within))))
    stands_at k x e lt there false off =
        let count = are.count in
        let within : k < length old.clusters.items = omega (arith, lt, count) in
        let same : (get_or old.clusters.items k x).entry ≡ e =
        same_Some (get_or old.clusters.items k x).entry e (ap (option_map (λ (c : Cluster). c.entry)) (sym (slice_get-get_or old.clusters.items k x within)) ∙ stay k e there off) in
        ap (λ (c : Cluster). c.entry) (are.others k x (unput (get_or new.put k false) refl)) ∙ same
      where
        unput : (put : Bool) → get_or new.put k false ≡ put → put ≡ false
        unput false is = refl
        unput true is = (let clash : true ≡ false = sym ((marked k).1 (are.among k is)) ∙ off in absurd (cc clash))

    each : (k : ℕ) (d : ClusterEntry) → k < length new.clusters.items → get_or (entries_of new.clusters.items) k d ≡ get_or entries k d
    each k d lt =
        let count = are.count in
        let long = same_count old.clusters.items entries names in
        get_or-map (λ (c : Cluster). c.entry) new.clusters.items k (some_cluster d) d lt
        ∙ stands_at k (some_cluster d) (get_or entries k d) lt (slice_get-get_or entries k d (omega (arith, lt, count, long))) (get_or marks k false) refl

-- ---- what is kept of clusters with other entries

name_at : (clusters : List Cluster) (entries : List ClusterEntry) (k : ℕ) (d : Cluster) (e : ClusterEntry) → map (λ x. x.name) entries ≡ map (λ c. c.entry.name) clusters → k < length clusters → (get_or clusters k d).entry.name ≡ (get_or entries k e).name
name_at clusters entries k d e names lt =
    let long = same_count clusters entries names in
    sym (get_or-map (λ (c : Cluster). c.entry.name) clusters k d d.entry.name lt)
    ∙ (ap (λ (ns : List (List ℕ)). get_or ns k d.entry.name) (sym names) ∙ get_or-map (λ (x : ClusterEntry). x.name) entries k e d.entry.name (omega (arith, lt, long)))

-- they stand in the order of their names, as the entries do
pub rising_by : (clusters : List Cluster) (entries : List ClusterEntry) → map (λ x. x.name) entries ≡ map (λ c. c.entry.name) clusters → AllPairs (λ a b. IsNameBefore a.name b.name) entries → AreRising clusters
rising_by clusters entries names rising i j d less lt =
    let long = same_count clusters entries names in
    subst (λ (n : List ℕ). IsNameBefore n (get_or clusters j d).entry.name) (sym (name_at clusters entries i d d.entry names (omega (arith, less, lt))))
    (subst (λ (n : List ℕ). IsNameBefore (get_or entries i d.entry).name n) (sym (name_at clusters entries j d d.entry names lt)) (rising i j d.entry less (omega (arith, lt, long))))

names_of : (clusters : List Cluster) (entries : List ClusterEntry) → entries_of clusters ≡ entries → map (λ x. x.name) entries ≡ map (λ c. c.entry.name) clusters
names_of clusters entries are = ap (map (λ (x : ClusterEntry). x.name)) (sym are) ∙ map_map (λ (x : ClusterEntry). x.name) (λ (c : Cluster). c.entry) clusters

entry_at : (clusters : List Cluster) (entries : List ClusterEntry) (k : ℕ) (d : Cluster) (e : ClusterEntry) → entries_of clusters ≡ entries → k < length clusters → (get_or clusters k d).entry ≡ get_or entries k e
entry_at clusters entries k d e are lt = sym (get_or-map (λ (c : Cluster). c.entry) clusters k d e lt) ∙ ap (λ (es : List ClusterEntry). get_or es k e) are

serving_grown : (users new : UserList) (place : ℕ) (state : Result Standing Reason) → Grows users new → IfOk state (λ s. IsSoundTree users place s.trees.serving.leaves) → IfOk state (λ s. IsSoundTree new place s.trees.serving.leaves)
serving_grown users new place (Ok s) grows sound = (sound.0, grown_leaves users new place grows s.trees.serving.leaves.leaves sound.1)
serving_grown users new place (Err reason) grows sound = tt

leaves_grown : (users new : UserList) (place : ℕ) (state : Result Leaves Reason) → Grows users new → IfOk state (IsSoundTree users place) → IfOk state (IsSoundTree new place)
leaves_grown users new place (Ok leaves) grows sound = (sound.0, grown_leaves users new place grows leaves.leaves sound.1)
leaves_grown users new place (Err reason) grows sound = tt

leaves_sound : (users : UserList) (place : ℕ) (state : Result Leaves Reason) → IfOk state AreLawfulLeaves → IfOk state (λ leaves. ReadsLeaves users place leaves.leaves) → IfOk state (IsSoundTree users place)
leaves_sound users place (Ok leaves) lawful reads = (lawful, reads)
leaves_sound users place (Err reason) lawful reads = tt

module _ (put : List Bool) (entries : List ClusterEntry) (old new : List Cluster) (are : ArePut put entries old new) where
  indexed_put : (before users : UserList) → All (λ e. IfOk e.state AreLawfulLeaves) entries → AllPairs (λ a b. IsNameBefore a.name b.name) entries → AreIndexed before old → Grows before users → AreReadAt put users new → AreIndexed users new
  indexed_put before users lawful rising indexed grows read = record {
    rising = rising_by new entries (names_of new entries are.entries_are) rising;
    sound = λ k d lt.
        let count = are.count in
        let was = indexed.sound k d (omega (arith, lt, count)) in (
          entry_sound k d lt (get_or put k false) refl,
          subst (λ (s : Result Standing Reason). IfOk s (λ x. IsSoundTree users k x.trees.serving.leaves)) (sym (are.trees k d (omega (arith, lt, count)))) (serving_grown before users k (get_or old k d).state grows was.1),
        );
  }
    where
      entry_sound : (k : ℕ) (d : Cluster) → k < length new → (mark : Bool) → get_or put k false ≡ mark → IfOk (get_or new k d).entry.state (IsSoundTree users k)
      entry_sound k d lt true on =
          let long = same_count new entries (names_of new entries are.entries_are) in
          leaves_sound users k (get_or new k d).entry.state
          (subst (λ (e : ClusterEntry). IfOk e.state AreLawfulLeaves) (sym (entry_at new entries k d d.entry are.entries_are lt)) (lawful k d.entry (omega (arith, lt, long)))) (read k d lt on)
      entry_sound k d lt false off =
          let same = are.stand.each k d lt off in
          subst (λ (c : Cluster). IfOk c.entry.state (IsSoundTree users k)) (sym same.1) (leaves_grown before users k (get_or old k d).entry.state grows (indexed.sound k d same.0).0)

  pub kept_put : (before users : UserList) (ends : Ends) (views : List (Result TreeView Reason)) → All (λ e. IfOk e.state AreLawfulLeaves) entries → AllPairs (λ a b. IsNameBefore a.name b.name) entries → AreKept before ends views old → Grows before users →
      AreReadAt put users new → AreKept users ends views new
  kept_put before users ends views lawful rising kept grows read = record {
    few = let count = are.count in omega (arith, count, kept.few);
    indexed = indexed_put before users lawful rising kept.indexed grows read;
    timed = λ k d lt.
        let count = are.count in
        subst (λ (s : Result Standing Reason). IsTimed ends k (record { entry = (get_or new k d).entry; state = s })) (sym (are.trees k d (omega (arith, lt, count)))) (kept.timed k d (omega (arith, lt, count)));
    seen = λ k d lt.
        let count = are.count in
        subst (λ (s : Result Standing Reason). IfSome (slice_get views k) (λ view. view ≡ seen_of (record { entry = (get_or new k d).entry; state = s }))) (sym (are.trees k d (omega (arith, lt, count)))) (kept.seen k d (omega (arith, lt, count)));
  }

  -- ---- what the steps come to

  -- the clusters after an update are the same, whether it is told before that they stand for other entries
  pub clusters_put : (now : Time) (reports : Reports) → map (λ x. x.name) entries ≡ map (λ c. c.entry.name) old → AllPairs (λ a b. IsNameBefore a.name b.name) entries → clusters_after now reports (entries_of new) new ≡ clusters_after now reports entries old
  clusters_put now reports names rising =
      ap (λ (es : List ClusterEntry). clusters_after now reports es new) are.entries_are
      ∙ map_same (λ (e : ClusterEntry). cluster_after now reports e (cluster_named e.name new)) (λ (e : ClusterEntry). cluster_after now reports e (cluster_named e.name old)) entries (λ k e lt. each k e lt)
    where
      new_names : map (λ x. x.name) entries ≡ map (λ c. c.entry.name) new
      new_names = names_of new entries are.entries_are

      named : (clusters : List Cluster) → map (λ x. x.name) entries ≡ map (λ c. c.entry.name) clusters → (k : ℕ) (e : ClusterEntry) (d : Cluster) → k < length entries → cluster_named (get_or entries k e).name clusters ≡ Some (get_or clusters k d)
      named clusters same k e d lt =
          let long = same_count clusters entries same in
          let within : k < length clusters = omega (arith, lt, long) in
          ap (λ (n : List ℕ). cluster_named n clusters) (sym (name_at clusters entries k d e same within)) ∙ named_itself clusters k d (rising_by clusters entries same rising) within

      each : (k : ℕ) (e : ClusterEntry) → k < length entries → cluster_after now reports (get_or entries k e) (cluster_named (get_or entries k e).name new) ≡ cluster_after now reports (get_or entries k e) (cluster_named (get_or entries k e).name old)
      each k e lt =
          let entry : ClusterEntry = get_or entries k e in
          let d : Cluster = some_cluster e in
          let long = same_count old entries names in
          let after : Result Standing Reason → Cluster = λ s. record { entry = entry; state = state_after now reports entry.state (trees_in s) } in
          ap (cluster_after now reports entry) (named new new_names k e d lt)
          ∙ (ap after (are.trees k d (omega (arith, lt, long))) ∙ ap (cluster_after now reports entry) (sym (named old names k e d lt)))

  pub stand_put : (anew : List Bool) (after : List Cluster) → ((place : ℕ) → place < length new → get_or put place false ≡ true → get_or anew place false ≡ true) → StandBut anew new after → StandBut anew old after
  stand_put anew after among stand = record {
    count = stand.count;
    each = λ place d lt off.
        let same = stand.each place d lt off in
        let before = are.stand.each place d same.0 (unput place same.0 off) in
        (before.0, same.1 ∙ before.1);
  }
    where
      unput : (place : ℕ) → place < length new → get_or anew place false ≡ false → get_or put place false ≡ false
      unput place lt off = by (get_or put place false) refl
        where
          by : (mark : Bool) → get_or put place false ≡ mark → mark ≡ false
          by false is = refl
          by true is = (let clash : true ≡ false = sym (among place lt is) ∙ off in absurd (cc clash))

  pub marks_put : (now : Time) (reports : Reports) (marks : List Bool) (after : List Cluster) → map (λ x. x.name) entries ≡ map (λ c. c.entry.name) old → AllPairs (λ a b. IsNameBefore a.name b.name) entries → after ≡ clusters_after now reports entries old →
      MarkChangesInPlace marks new after → MarkChanges marks old after
  marks_put now reports marks after names rising is marked = record {
    count = marked.count;
    each = λ place d lt.
        let g : ClusterEntry → Cluster = λ e. cluster_after now reports e (cluster_named e.name old) in
        let length_is : length after ≡ length entries = ap (λ (cs : List Cluster). length cs) is ∙ length-map entries g in
        let long = same_count old entries names in
        let within : place < length old = omega (arith, lt, length_is, long) in
        let name : (get_or after place d).entry.name ≡ (get_or old place d).entry.name =
        ap (λ (cs : List Cluster). (get_or cs place d).entry.name) is
        ∙ (ap (λ (c : Cluster). c.entry.name) (get_or-map g entries place d.entry d (omega (arith, within, long))) ∙ sym (name_at old entries place d d.entry names within)) in
        let seen : seen_named (get_or after place d).entry.name old ≡ Some (seen_of (get_or new place d)) =
        ap (λ (n : List ℕ). seen_named n old) name
        ∙ (ap (option_map seen_of) (named_itself old place d (rising_by old entries names rising) within)
        ∙ ap (λ (s : Result Standing Reason). let o : Option (Result TreeView Reason) = Some (seen_of (record { entry = (get_or old place d).entry; state = s })) in o) (sym (are.trees place d within))) in
        subst (λ (o : Option (Result TreeView Reason)). IsChangeMark (get_or marks place false) o (seen_of (get_or after place d))) (sym seen) (marked.each place d lt);
  }

pub forest_put : (put : List Bool) (entries : List ClusterEntry) (now : Time) (reports : Reports) (old mid new : Forest) → ArePut put entries old.clusters mid.clusters → map (λ x. x.name) entries ≡ map (λ c. c.entry.name) old.clusters →
    AllPairs (λ a b. IsNameBefore a.name b.name) entries → new ≡ forest_after now reports (entries_of mid.clusters) mid → new ≡ forest_after now reports entries old
forest_put put entries now reports old mid new are names rising step =
    let make : List Cluster → Forest = λ cs. record { now = now; clusters = cs } in
    step ∙ ap make (clusters_put put entries old.clusters mid.clusters are now reports names rising)

-- what an update is told where entries were put since the last one
pub changes_put : (put : List Bool) (entries : List ClusterEntry) (changed : List (List ℕ)) (reports : Reports) (old new : Forest) → ArePut put entries old.clusters new.clusters → new.now ≡ old.now → ChangesAt changed reports old → ChangesBut put changed reports new
changes_put put entries changed reports old new are now asked = record {
  before = old;
  changes = asked;
  now_is = sym now;
  stand = are.stand;
}

-- and where none was
pub changes_same : (count : ℕ) (changed : List (List ℕ)) (reports : Reports) (forest : Forest) → count ≡ length forest.clusters → ChangesAt changed reports forest → ChangesBut (replicate count false) changed reports forest
changes_same count changed reports forest is asked = record {
  before = forest;
  changes = asked;
  now_is = refl;
  stand = record { count = length-replicate count false ∙ is; each = λ place d lt off. (lt, refl) };
}
