-- Clusters before and after an update, side by side in the order of their names.
use Rattle.std.proofs.Common.{◌≡◌, ◌<◌, ◌≤◌, ◌+◌, ◌||◌, ℕ, suc, Bool, true, false, cond, List, [], ◌∷◌, ◌++◌, length, take, get_or, Option, Some, None, Result, Ok, Err, ◌⊎◌, inl, inr, refl, sym, ap, ◌∙◌, subst, arith}
use Rattle.std.specs.Prelude.{All, AllPairs, IfOk, IfSome, bytes_eq, find, not, nat_lt, ◌==◌, slice_get}
use Rattle.std.specs.Ordering.{nat_cmp, is_eq, ordering_reverse}
use Rattle.std.specs.declared.cmp.Ordering.{Ordering}
use Rattle.std.specs.declared.cmp.Ordering.TheVariants.{Less, Equal, Greater}
use Rattle.std.specs.Cmp.Lexicographic.{slice_cmp, nat_list_cmp_total}
use Rattle.std.proofs.lemmas.Bool.{cases_lt}
use Rattle.std.proofs.lemmas.Bool.Decides.{nat_tests}
use Rattle.std.proofs.lemmas.Map.Text.{is_eq-slice_cmp}
use Rattle.std.proofs.lemmas.Slice.Eq.{bytes_eq-Decides}
use Rattle.std.proofs.lemmas.Option.{slice_get-get_or, slice_get_within}
use Rattle.std.proofs.lemmas.List.{length_push, length-map, length-take-le, get_or_default, get_or_push, get_or_append_left}
use Rattle.xc_base.specs.declared.names.Time.{Time}
use Rattle.xds_config.specs.declared.config.Leaves.{Leaves}
use Rattle.xds_config.specs.declared.config.ClusterEntry.{ClusterEntry}
use Rattle.xds_config.specs.Configs.{IsNameBefore, AreLawfulLeaves}
use Rattle.cluster_tree.specs.declared.cluster_trees.Cluster.{Cluster}
use Rattle.cluster_tree.specs.declared.cluster_trees.Standing.{Standing}
use Rattle.tree_steps.specs.Reports.{Reports}
use Rattle.tree_steps.specs.Users.{UserList, ReadsLeaves}
use Rattle.cluster_tree.specs.StandingTrees.{cluster_after, cluster_named, clusters_after, stands_in}
use Rattle.cluster_tree.specs.ClusterUsers.{AreRising, IsReached, AreReadIn, AreReadBut, AreIndexed, OthersStay, StandBut, IsSound, StaysUnmarked}
use Rattle.cluster_tree.proofs.ForestLemmas.{find_first, names_differ, not_due}

-- ---- the cluster of a name stands at the place that is reached, if anywhere

-- a name that neither stands before another nor is the same stands behind it
behind : (a b : List ℕ) → (IsNameBefore a b → ⊥) → bytes_eq a b ≡ false → IsNameBefore b a
behind a b before other = by (slice_cmp nat_cmp a b) refl
  where
    by : (o : Ordering) → slice_cmp nat_cmp a b ≡ o → IsNameBefore b a
    by Less is = absurd (before is)
    by Equal is = (let clash : true ≡ false = sym (ap is_eq is) ∙ (is_eq-slice_cmp a b ∙ other) in absurd (cc))
    by Greater is = nat_list_cmp_total.antisymm b a ∙ ap ordering_reverse is

apart : (a b : List ℕ) → IsNameBefore b a → bytes_eq a b ≡ false
apart a b before = by (bytes_eq a b) refl
  where
    by : (same : Bool) → bytes_eq a b ≡ same → same ≡ false
    by false is = refl
    by true is =
        let one : a ≡ b = (bytes_eq-Decides a b).0 is in
        let clash : true ≡ false = sym ((bytes_eq-Decides b b).1 refl) ∙ names_differ b b (subst (λ (n : List ℕ). IsNameBefore b n) one before) in
        absurd (cc)

find_none : {X : Type 0} (p : X → Bool) (xs : List X) → All (λ x. p x ≡ false) xs → find p xs ≡ None
find_none p [] all = refl
find_none p (x ∷ xs) all = ap (λ (b : Bool). cond b (Some x) (find p xs)) (all 0 x (omega arith)) ∙ find_none p xs (λ k d lt. all (suc k) d (omega (arith, lt)))

pub named_nowhere : (clusters : List Cluster) (place : ℕ) (name : List ℕ) → AreRising clusters → IsReached clusters name place →
    ((d : Cluster) → place < length clusters → bytes_eq (get_or clusters place d).entry.name name ≡ false) → cluster_named name clusters ≡ None
named_nowhere clusters place name rising reached other = find_none (λ (c : Cluster). bytes_eq c.entry.name name) clusters (λ k d lt. by k d lt (cases_lt k place))
  where
    past : (k : ℕ) (d : Cluster) → k < length clusters → (place < k) ⊎ (k ≤ place) → place ≤ k → bytes_eq (get_or clusters k d).entry.name name ≡ false
    past k d lt (inl less) le =
        let here : place < length clusters = omega (arith, less, lt) in
        apart (get_or clusters k d).entry.name name
        (nat_list_cmp_total.trans name (get_or clusters place d).entry.name (get_or clusters k d).entry.name (behind (get_or clusters place d).entry.name name (reached.stops d here) (other d here)) (rising place k d less lt))
    past k d lt (inr least) le =
        let at : place ≡ k = omega (arith, least, le) in
        subst (λ (n : ℕ). bytes_eq (get_or clusters n d).entry.name name ≡ false) at (other d (omega (arith, at, lt)))

    by : (k : ℕ) (d : Cluster) → k < length clusters → (k < place) ⊎ (place ≤ k) → bytes_eq (get_or clusters k d).entry.name name ≡ false
    by k d lt (inl less) = names_differ (get_or clusters k d).entry.name name (reached.passed k d less)
    by k d lt (inr le) = past k d lt (cases_lt place k) le

pub named_here : (clusters : List Cluster) (place : ℕ) (d : Cluster) (name : List ℕ) → IsReached clusters name place → place < length clusters → (get_or clusters place d).entry.name ≡ name → cluster_named name clusters ≡ Some (get_or clusters place d)
named_here clusters place d name reached lt same =
    find_first (λ (c : Cluster). bytes_eq c.entry.name name) clusters place d lt (λ j less. names_differ (get_or clusters j d).entry.name name (reached.passed j d less)) ((bytes_eq-Decides (get_or clusters place d).entry.name name).1 same)

some_at : (clusters : List Cluster) (place : ℕ) (c d : Cluster) → slice_get clusters place ≡ Some c → get_or clusters place d ≡ c
some_at clusters place c d is = some_inj (get_or clusters place d) c (sym (slice_get-get_or clusters place d (slice_get_within clusters place c is)) ∙ is)
  where
    some_inj : (a b : Cluster) → Some a ≡ Some b → a ≡ b
    some_inj a b same = cc

-- the cluster at the place has the name
pub found_here : (clusters : List Cluster) (place : ℕ) (c : Cluster) (name : List ℕ) → IsReached clusters name place → slice_get clusters place ≡ Some c → c.entry.name ≡ name → Some c ≡ cluster_named name clusters
found_here clusters place c name reached is same =
    let at : get_or clusters place c ≡ c = some_at clusters place c c is in
    sym (named_here clusters place c name reached (slice_get_within clusters place c is) (ap (λ (x : Cluster). x.entry.name) at ∙ same) ∙ ap (λ (x : Cluster). let o : Option Cluster = Some x in o) at)

-- it has another name
pub found_other : (clusters : List Cluster) (place : ℕ) (c : Cluster) (name : List ℕ) → AreRising clusters → IsReached clusters name place → slice_get clusters place ≡ Some c → (c.entry.name ≡ name → ⊥) → None ≡ cluster_named name clusters
found_other clusters place c name rising reached is other =
    sym (named_nowhere clusters place name rising reached (λ d lt. unequal (get_or clusters place d).entry.name (λ same. other (ap (λ (x : Cluster). x.entry.name) (sym (some_at clusters place c d is)) ∙ same))))
  where
    unequal : (a : List ℕ) → (a ≡ name → ⊥) → bytes_eq a name ≡ false
    unequal a never = by (bytes_eq a name) refl
      where
        by : (same : Bool) → bytes_eq a name ≡ same → same ≡ false
        by false is = refl
        by true is = absurd (never ((bytes_eq-Decides a name).0 is))

-- there is no cluster at the place
pub found_none : (clusters : List Cluster) (place : ℕ) (name : List ℕ) → AreRising clusters → IsReached clusters name place → slice_get clusters place ≡ None → None ≡ cluster_named name clusters
found_none clusters place name rising reached is =
    sym (named_nowhere clusters place name rising reached (λ d lt. (let clash : Some (get_or clusters place d) ≡ None = sym (slice_get-get_or clusters place d lt) ∙ is in absurd (cc))))

-- ---- the loop that passes the clusters in front of a name

abbrev pub AreBefore : List Cluster → ℕ → List ℕ → Type 0
AreBefore clusters place name = (k : ℕ) (d : Cluster) → k < place → IsNameBefore (get_or clusters k d).entry.name name

pub before_more : (clusters : List Cluster) (i : ℕ) (x : Cluster) (name : List ℕ) → i < length clusters → x ≡ get_or clusters i x → AreBefore clusters i name → IsNameBefore x.entry.name name → AreBefore clusters (i + 1) name
before_more clusters i x name lt is before here = λ k d less. by k d less (cases_lt k i)
  where
    by : (k : ℕ) (d : Cluster) → k < i + 1 → (k < i) ⊎ (i ≤ k) → IsNameBefore (get_or clusters k d).entry.name name
    by k d less (inl within) = before k d within
    by k d less (inr past) =
        let at : k ≡ i = omega (arith, less, past) in
        let same : x ≡ get_or clusters k d = is ∙ (get_or_default clusters i x d lt ∙ ap (λ (n : ℕ). get_or clusters n d) (sym at)) in
        subst (λ (c : Cluster). IsNameBefore c.entry.name name) same here

pub reached_here : (clusters : List Cluster) (i : ℕ) (x : Cluster) (name : List ℕ) → i < length clusters → x ≡ get_or clusters i x → AreBefore clusters i name → (IsNameBefore x.entry.name name → ⊥) → IsReached clusters name i
reached_here clusters i x name lt is before stops = record {
  within = omega (arith, lt);
  passed = before;
  stops = λ d less here. stops (subst (λ (c : Cluster). IsNameBefore c.entry.name name) (sym (is ∙ get_or_default clusters i x d lt)) here);
}

pub reached_end : (clusters : List Cluster) (i end : ℕ) (name : List ℕ) → length clusters ≤ i → end ≡ length clusters → AreBefore clusters i name → IsReached clusters name end
reached_end clusters i end name le is before = record {
  within = omega (arith, is);
  passed = λ k d less. before k d (omega (arith, le, is, less));
  stops = λ d less here. absurd (omega (arith, is, less));
}

-- ---- a cluster that stays as it is

-- the cluster that was found is among those that stay where they aren't marked
pub stays_here : (last now : Time) (r : Reports) (marks : List Bool) (clusters : List Cluster) (place : ℕ) (found : Option Cluster) → OthersStay last now r marks clusters → IfSome found (λ c. (place < length clusters) × (get_or clusters place c ≡ c)) →
    IfSome found (λ c. StaysUnmarked last now r (get_or marks place false) c)
stays_here last now r marks clusters place None others here = tt
stays_here last now r marks clusters place (Some c) others here = subst (λ (x : Cluster). StaysUnmarked last now r (get_or marks place false) x) here.1 (others place c here.0)

pub stays_same : (last now : Time) (r : Reports) (mark : Bool) (c : Cluster) (entry : ClusterEntry) → StaysUnmarked last now r mark c → (mark || not (stands_in now c.state) || nat_lt now.0 last.0) ≡ false → c.entry ≡ entry →
    c ≡ cluster_after now r entry (Some c)
stays_same last now r mark c entry stays off same =
    let still = not_due mark (stands_in now c.state) now.0 last.0 (mark || not (stands_in now c.state) || nat_lt now.0 last.0) refl off in
    sym (ap (λ (e : ClusterEntry). cluster_after now r e (Some c)) (sym same) ∙ stays still.unmarked still.idle still.le)

-- ---- the loop over the entries

-- the entries from a place on stand behind the clusters in front of another place
abbrev pub ArePassed : List Cluster → ℕ → List ClusterEntry → ℕ → Type 0
ArePassed clusters from entries place = (k j : ℕ) (d : Cluster) (e : ClusterEntry) → k < from → place ≤ j → j < length entries → IsNameBefore (get_or clusters k d).entry.name (get_or entries j e).name

pub passed_here : (clusters : List Cluster) (from : ℕ) (entries : List ClusterEntry) (i : ℕ) (entry : ClusterEntry) → i < length entries → entry ≡ get_or entries i entry → ArePassed clusters from entries i →
    (k : ℕ) (d : Cluster) → k < from → IsNameBefore (get_or clusters k d).entry.name entry.name
passed_here clusters from entries i entry lt is passed = λ k d less. subst (λ (e : ClusterEntry). IsNameBefore (get_or clusters k d).entry.name e.name) (sym is) (passed k i d entry less (omega arith) lt)

pub passed_more : (clusters : List Cluster) (place : ℕ) (entries : List ClusterEntry) (i : ℕ) (entry : ClusterEntry) → i < length entries → entry ≡ get_or entries i entry → AllPairs (λ a b. IsNameBefore a.name b.name) entries →
    IsReached clusters entry.name place → ArePassed clusters place entries (i + 1)
passed_more clusters place entries i entry lt is rising reached = λ k j d e less le within.
    let first : get_or entries i e ≡ entry = sym (is ∙ get_or_default entries i entry e lt) in
    let next : IsNameBefore entry.name (get_or entries j e).name = subst (λ (x : ClusterEntry). IsNameBefore x.name (get_or entries j e).name) first (rising i j e (omega (arith, le)) within) in
    nat_list_cmp_total.trans (get_or clusters k d).entry.name entry.name (get_or entries j e).name (reached.passed k d less) next

pub long_so_far : (now : Time) (r : Reports) (entries : List ClusterEntry) (old clusters : List Cluster) (i : ℕ) → i < length entries → clusters ≡ clusters_after now r (take i entries) old → length clusters ≡ i
long_so_far now r entries old clusters i lt is = ap length is ∙ (length-map (take i entries) (λ (e : ClusterEntry). cluster_after now r e (cluster_named e.name old)) ∙ length-take-le i entries (omega arith))

-- one more cluster, which may be the one from before at its place
pub stand_more : (old new newer : List Cluster) (marks more : List Bool) (cluster : Cluster) (mark : Bool) → StandBut marks old new → newer ≡ new ++ cluster ∷ [] → more ≡ marks ++ mark ∷ [] →
    (mark ≡ false → (length new < length old) × (cluster ≡ get_or old (length new) cluster)) → StandBut more old newer
stand_more old new newer marks more cluster mark was is are here =
    subst (λ (cs : List Cluster). StandBut more old cs) (sym is) (subst (λ (ms : List Bool). StandBut ms old (new ++ cluster ∷ [])) (sym are) (record {
      count = length_push marks mark ∙ (ap (λ (n : ℕ). n + 1) was.count ∙ sym (length_push new cluster));
      each = λ place d lt. by place d lt (cases_lt place (length new));
    }))
  where
    by : (place : ℕ) (d : Cluster) → place < length (new ++ cluster ∷ []) → (place < length new) ⊎ (length new ≤ place) → get_or (marks ++ mark ∷ []) place false ≡ false →
        (place < length old) × (get_or (new ++ cluster ∷ []) place d ≡ get_or old place d)
    by place d lt (inl within) off =
        let among : place < length marks = omega (arith, within, was.count) in
        let before = was.each place d within (sym (get_or_append_left marks (mark ∷ []) false place among) ∙ off) in
        (before.0, get_or_append_left new (cluster ∷ []) d place within ∙ before.1)
    by place d lt (inr past) off =
        let long = length_push new cluster in
        let last : length new ≡ place = omega (arith, long, lt, past) in
        let at = here (sym (get_or_push marks mark false place (was.count ∙ last)) ∙ off) in (
          subst (λ (n : ℕ). n < length old) last at.0,
          get_or_push new cluster d place last ∙ (at.1 ∙ (get_or_default old (length new) cluster d at.0 ∙ ap (λ (n : ℕ). get_or old n d) last)),
        )

pub neither : (a b : Bool) → (a || b) ≡ false → (a ≡ false) × (b ≡ false)
neither true b off = (let clash : true ≡ false = off in absurd (cc))
neither false b off = (refl, off)

pub unmoved : (a b : ℕ) → not (a == b) ≡ false → a ≡ b
unmoved a b off = grind (arith, nat_tests)

-- ---- which of them read which addresses

second_holds : {A E : Type 0} (P Q : A → Type 0) (result : Result A E) → IfOk result (λ x. P x × Q x) → IfOk result Q
second_holds P Q (Ok x) both = both.1
second_holds P Q (Err e) both = tt

sound_reads : (users : UserList) (place : ℕ) (c : Cluster) → IsSound users place c → AreReadIn users place c.entry.state c.state
sound_reads users place c sound = (
  second_holds AreLawfulLeaves (λ (L : Leaves). ReadsLeaves users place L.leaves) c.entry.state sound.0,
  second_holds (λ (s : Standing). AreLawfulLeaves s.trees.serving.leaves) (λ (s : Standing). ReadsLeaves users place s.trees.serving.leaves.leaves) c.state sound.1,
)

-- a cluster that stands at its place reads no other addresses than before
pub read_but : (users : UserList) (marks : List Bool) (old new : List Cluster) → AreIndexed users old → StandBut marks old new → AreReadBut marks users new
read_but users marks old new indexed stand = λ place d lt off.
    let at = stand.each place d lt off in
    subst (λ (c : Cluster). AreReadIn users place c.entry.state c.state) (sym at.1) (sound_reads users place (get_or old place d) (indexed.sound place d at.0))

pub none_indexed : (users : UserList) (clusters : List Cluster) → clusters ≡ [] → AreIndexed users clusters
none_indexed users clusters is = subst (λ (cs : List Cluster). AreIndexed users cs) (sym is) (record {
  rising = λ i j d less lt. absurd (omega arith);
  sound = λ k d lt. absurd (omega arith);
})
