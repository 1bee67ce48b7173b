-- Clusters that are among those that read their addresses.
use Rattle.std.proofs.Common.{◌≡◌, ◌<◌, ◌≤◌, ◌+◌, ℕ, zero, suc, Bool, true, false, cond, List, length, take, get_or, Option, Some, None, ◌⊎◌, inl, inr, refl, sym, ap, ◌∙◌, subst, arith}
use Rattle.std.specs.Prelude.{◌↔◌, All, Contains, Result, Ok, Err, IfOk, IfSome}
use Rattle.std.specs.Option.{option_and_then}
use Rattle.std.proofs.lemmas.Bool.{cases_lt}
use Rattle.std.proofs.lemmas.List.Elements.{All-map}
use Rattle.xc_base.specs.declared.names.Time.{Time}
use Rattle.xds_config.specs.declared.config.ClusterEntry.{ClusterEntry}
use Rattle.graceful_switch.specs.Takeover.{Pair, has_to_wait, settled}
use Rattle.tree_steps.specs.Reports.{Reports}
use Rattle.tree_steps.specs.TreeSteps.{TreeFacts, followed, stayed, state_of, has_kind, trees_after}
use Rattle.cluster_tree.specs.StandingTrees.{trees_of, cluster_named, state_after, cluster_after, clusters_after}
use Rattle.std.proofs.lemmas.List.{take_all, length-take-le, get_or-take, get_or_default}
use Rattle.xc_base.specs.declared.reason.Reason.{Reason}
use Rattle.xds_config.specs.declared.config.Leaves.{Leaves}
use Rattle.cluster_tree.specs.declared.cluster_trees.Standing.{Standing}
use Rattle.cluster_tree.specs.declared.cluster_trees.Cluster.{Cluster}
use Rattle.tree_steps.specs.Users.{UserList, Grows, ReadsLeaves}
use Rattle.tree_steps.proofs.UserLemmas.{grown_leaves}
use Rattle.cluster_tree.specs.ClusterUsers.{FollowsEntry, AreReadIn, AreRead}

pub read_by : (users new : UserList) (place : ℕ) (cluster : Cluster) → Grows users new → AreReadIn users place cluster.entry.state cluster.state → AreReadIn new place cluster.entry.state cluster.state
read_by users new place cluster grows (entry, serving) = (leaves_in cluster.entry.state entry, standing_in cluster.state serving)
  where
    leaves_in : (state : Result Leaves Reason) → IfOk state (λ leaves. ReadsLeaves users place leaves.leaves) → IfOk state (λ leaves. ReadsLeaves new place leaves.leaves)
    leaves_in (Ok leaves) reads = grown_leaves users new place grows leaves.leaves reads
    leaves_in (Err reason) reads = tt

    standing_in : (state : Result Standing Reason) → IfOk state (λ s. ReadsLeaves users place s.trees.serving.leaves.leaves) → IfOk state (λ s. ReadsLeaves new place s.trees.serving.leaves.leaves)
    standing_in (Ok s) reads = grown_leaves users new place grows s.trees.serving.leaves.leaves reads
    standing_in (Err reason) reads = tt

-- one more cluster is among those that read its addresses
pub read_more : (old new : UserList) (clusters : List Cluster) (i : ℕ) (x : Cluster) → i < length clusters → x ≡ get_or clusters i x → AreRead old (take i clusters) → Grows old new → AreReadIn new i x.entry.state x.state → AreRead new (take (i + 1) clusters)
read_more old new clusters i x lt is all grows here = λ place d within. by place d within (place_cases place i)
  where
    place_cases : (place i : ℕ) → (place < i) ⊎ (i ≤ place)
    place_cases zero zero = inr (omega arith)
    place_cases zero (suc i) = inl (omega arith)
    place_cases (suc place) zero = inr (omega arith)
    place_cases (suc place) (suc i) = lift (place_cases place i)
      where
        lift : (place < i) ⊎ (i ≤ place) → (suc place < suc i) ⊎ (suc i ≤ suc place)
        lift (inl lt) = inl (omega arith)
        lift (inr le) = inr (omega arith)

    by : (place : ℕ) (d : Cluster) → place < length (take (i + 1) clusters) → (place < i) ⊎ (i ≤ place) → AreReadIn new place (get_or (take (i + 1) clusters) place d).entry.state (get_or (take (i + 1) clusters) place d).state
    by place d within (inl before) =
        let long = length-take-le (i + 1) clusters (omega arith) in
        let short = length-take-le i clusters (omega arith) in
        let same : get_or (take i clusters) place d ≡ get_or (take (i + 1) clusters) place d = get_or-take i clusters place d before ∙ sym (get_or-take (i + 1) clusters place d (omega arith)) in
        subst (λ (c : Cluster). AreReadIn new place c.entry.state c.state) same (read_by old new place (get_or (take i clusters) place d) grows (all place d (omega (arith, short, before))))
    by place d within (inr after) =
        let long = length-take-le (i + 1) clusters (omega arith) in
        let at : place ≡ i = omega (arith, long, within, after) in
        let same : x ≡ get_or (take (i + 1) clusters) place d =
        is ∙ (get_or_default clusters i x d lt ∙ (ap (λ (n : ℕ). get_or clusters n d) (sym at) ∙ sym (get_or-take (i + 1) clusters place d (omega arith)))) in
        subst (λ (c : Cluster). AreReadIn new place c.entry.state c.state) same (subst (λ (n : ℕ). AreReadIn new n x.entry.state x.state) (sym at) here)

pub read_all : (users : UserList) (clusters : List Cluster) (i : ℕ) → length clusters ≤ i → AreRead users (take i clusters) → AreRead users clusters
read_all users clusters i le read = subst (λ cs. AreRead users cs) (take_all i clusters le) read

-- ---- where no tree waits, the serving one follows the entry

settled_follows : (wait : Bool) (t u : TreeFacts) → (let ts : Pair TreeFacts = cond wait (record { serving = t; waiting = Some u }) (record { serving = u; waiting = None }) in ts.waiting ≡ None → u.leaves ≡ ts.serving.leaves)
settled_follows true t u none = absurd (cc)
settled_follows false t u none = refl

kind_follows : (kind : Bool) (now : Time) (r : Reports) (L : Leaves) (old : Pair TreeFacts) →
    (let ts : Pair TreeFacts = cond kind (record { serving = followed now r L (Some old.serving); waiting = None }) (settled state_of (stayed now r old.serving) (Some (followed now r L old.waiting))) in ts.waiting ≡ None → L ≡ ts.serving.leaves)
kind_follows true now r L old none = refl
kind_follows false now r L old none =
    settled_follows (has_to_wait (state_of (stayed now r old.serving)) (state_of (followed now r L old.waiting))) (stayed now r old.serving) (followed now r L old.waiting) none

trees_follow : (now : Time) (r : Reports) (L : Leaves) (old : Option (Pair TreeFacts)) → (trees_after now r L old).waiting ≡ None → L ≡ (trees_after now r L old).serving.leaves
trees_follow now r L None none = refl
trees_follow now r L (Some old) none = kind_follows (has_kind L old.serving) now r L old none

state_follows : (now : Time) (r : Reports) (state : Result Leaves Reason) (old : Option (Pair TreeFacts)) → IfOk (state_after now r state old) (λ s. s.trees.waiting ≡ None → state ≡ Ok s.trees.serving.leaves)
state_follows now r (Ok L) old = λ none. ap (λ (x : Leaves). let y : Result Leaves Reason = Ok x in y) (trees_follow now r L old none)
state_follows now r (Err reason) old = tt

pub all_follow : (now : Time) (r : Reports) (entries : List ClusterEntry) (old clusters : List Cluster) → clusters ≡ clusters_after now r entries old → All FollowsEntry clusters
all_follow now r entries old clusters is =
    subst (λ (cs : List Cluster). All FollowsEntry cs) (sym is)
    (All-map FollowsEntry (λ (e : ClusterEntry). cluster_after now r e (cluster_named e.name old)) entries (λ k d lt.
    let e : ClusterEntry = get_or entries k d in
    state_follows now r e.state (option_and_then trees_of (cluster_named e.name old))))

-- the addresses of the serving tree are read where those of the entry are, and those of a tree beside which another waits
pub serving_read : (users : UserList) (place : ℕ) (cluster : Cluster) → FollowsEntry cluster → IfOk cluster.entry.state (λ leaves. ReadsLeaves users place leaves.leaves) →
    IfOk cluster.state (λ s. IfSome s.trees.waiting (λ _. ReadsLeaves users place s.trees.serving.leaves.leaves)) → IfOk cluster.state (λ s. ReadsLeaves users place s.trees.serving.leaves.leaves)
serving_read users place cluster follows entry serving = by cluster.state follows serving
  where
    waits : (s : Standing) (waiting : Option TreeFacts) → s.trees.waiting ≡ waiting → (waiting ≡ None → cluster.entry.state ≡ Ok s.trees.serving.leaves) → IfSome waiting (λ _. ReadsLeaves users place s.trees.serving.leaves.leaves) →
        ReadsLeaves users place s.trees.serving.leaves.leaves
    waits s None is same read = subst (λ (x : Result Leaves Reason). IfOk x (λ leaves. ReadsLeaves users place leaves.leaves)) (same refl) entry
    waits s (Some other) is same read = read

    by : (state : Result Standing Reason) → IfOk state (λ s. s.trees.waiting ≡ None → cluster.entry.state ≡ Ok s.trees.serving.leaves) → IfOk state (λ s. IfSome s.trees.waiting (λ _. ReadsLeaves users place s.trees.serving.leaves.leaves)) →
        IfOk state (λ s. ReadsLeaves users place s.trees.serving.leaves.leaves)
    by (Ok s) same read = waits s s.trees.waiting refl same read
    by (Err reason) same read = tt

-- ---- the clusters at some places

-- something holds of the clusters at so many places in front
abbrev pub HoldAt : (ℕ → Cluster → Type 0) → List ℕ → ℕ → List Cluster → Type 0
HoldAt P places count clusters = (k : ℕ) (d : Cluster) → k < count → P (get_or places k 0) (get_or clusters (get_or places k 0) d)

pub hold_more : (P Q : ℕ → Cluster → Type 0) (places : List ℕ) (i place : ℕ) (clusters : List Cluster) (x : Cluster) → i < length places → place ≡ get_or places i place → place < length clusters → x ≡ get_or clusters place x
    → ((n : ℕ) (c : Cluster) → P n c → Q n c) → HoldAt P places i clusters → Q place x → HoldAt Q places (i + 1) clusters
hold_more P Q places i place clusters x lt is within at still all here k d less = by (cases_lt k i)
  where
    by : (k < i) ⊎ (i ≤ k) → Q (get_or places k 0) (get_or clusters (get_or places k 0) d)
    by (inl before) = still (get_or places k 0) (get_or clusters (get_or places k 0) d) (all k d before)
    by (inr past) =
        let last : k ≡ i = omega (arith, less, past) in
        let own : place ≡ get_or places k 0 = is ∙ (get_or_default places i place 0 lt ∙ ap (λ (n : ℕ). get_or places n 0) (sym last)) in
        subst (λ (p : ℕ). Q p (get_or clusters p d)) own (subst (λ (c : Cluster). Q place c) (at ∙ get_or_default clusters place x d within) here)

-- so it holds of all, where it held of those without a mark before
pub hold_marked : (P Q : ℕ → Cluster → Type 0) (marks : List Bool) (places : List ℕ) (count : ℕ) (clusters : List Cluster) → ((place : ℕ) → (get_or marks place false ≡ true) ↔ Contains places place) → length places ≤ count
    → ((place : ℕ) (d : Cluster) → place < length clusters → get_or marks place false ≡ false → P place (get_or clusters place d)) → ((n : ℕ) (c : Cluster) → P n c → Q n c) → HoldAt Q places count clusters
    → (place : ℕ) (d : Cluster) → place < length clusters → Q place (get_or clusters place d)
hold_marked P Q marks places count clusters marked le others still all place d lt = by (get_or marks place false) refl
  where
    by : (mark : Bool) → get_or marks place false ≡ mark → Q place (get_or clusters place d)
    by false off = still place (get_or clusters place d) (others place d lt off)
    by true on =
        let among : Contains places place = (marked place).0 on in
        let own : get_or places among.0 0 ≡ place = get_or_default places among.0 0 place among.1 ∙ among.2 in
        subst (λ (p : ℕ). Q p (get_or clusters p d)) own (all among.0 d (omega (arith, le, among.1)))
