-- The trees of all clusters one driver's entry later, and what is kept of them.
use Rattle.std.proofs.Common.{◌≡◌, ℕ, zero, suc, ◌<◌, Bool, true, false, cond, List, [], ◌∷◌, length, map, get_or, Option, Some, None, Result, Ok, Err, refl, sym, ap, ◌∙◌, subst, arith}
use Rattle.std.specs.Prelude.{All, AllPairs, IfOk, option_map, bytes_eq, find}
use Rattle.std.specs.Option.{option_and_then}
use Rattle.std.specs.List.{filter_map}
use Rattle.std.specs.Ordering.{is_eq}
use Rattle.std.proofs.lemmas.Map.Text.{is_eq-slice_cmp}
use Rattle.std.proofs.lemmas.Slice.Eq.{bytes_eq-Decides}
use Rattle.xc_base.specs.declared.names.State.{State}
use Rattle.xc_base.specs.declared.reason.Reason.{Reason}
use Rattle.xds_config.specs.declared.config.Leaves.{Leaves}
use Rattle.xds_config.specs.declared.config.ClusterEntry.{ClusterEntry}
use Rattle.xds_config.specs.declared.config.Config.{Config}
use Rattle.xds_config.specs.Configs.{AreLawfulLeaves, IsLawfulConfig, IsNameBefore}
use Rattle.graceful_switch.specs.Takeover.{Pair}
use Rattle.xds_history.specs.tree_steps.Reports.{Reports}
use Rattle.xds_history.specs.tree_steps.TreeSteps.{TreeFacts}
use Rattle.xds_history.specs.tree_steps.TreeSteps as steps
use Rattle.xds_history.specs.tree_steps.declared.tree_view.TreeView.{TreeView}
use Rattle.cluster_tree.specs.declared.cluster_trees.Cluster.{Cluster}
use Rattle.cluster_tree.specs.declared.cluster_trees.Standing.{Standing}
use Rattle.cluster_tree.specs.StandingTrees.{cluster_named, standing, state_after, cluster_after, clusters_after, view_in, views_of}
use Rattle.cluster_tree.specs.StandingTrees as kept
use Rattle.xds_history.specs.config_assembly.Orders.{Name}
use Rattle.xds_history.specs.declared.page.Tree.{Tree}
use Rattle.xds_history.specs.declared.page.ClusterTrees.{ClusterTrees}
use Rattle.xds_history.specs.Page.{trees_in, with_trees}
use Rattle.xds_history.specs.Trees.{Present, trees_with, trees_of, cluster_trees, trees_after}
use Rattle.xds_history.specs.Pickers.{cluster_view, view_with, views}
use Rattle.book_trees.specs.TreesKept.{pair_facts, IsGrownPair, StandsFor, entry_named, AreGrown, AreGrownTrees, kept_state, kept_cluster, kept_clusters, AreReportsOf}
use Rattle.book_trees.proofs.LifeLemmas.{trees_follow, trees_grown}
use Rattle.book_trees.proofs.SeenLemmas.{view_is}

-- ---- the cluster of a name

pub same_both : (a b : List ℕ) → bytes_eq a b ≡ bytes_eq b a
same_both a b = by (bytes_eq a b) (bytes_eq b a) (λ is. (bytes_eq-Decides b a).1 (sym ((bytes_eq-Decides a b).0 is))) (λ is. (bytes_eq-Decides a b).1 (sym ((bytes_eq-Decides b a).0 is)))
  where
    by : (x y : Bool) → (x ≡ true → y ≡ true) → (y ≡ true → x ≡ true) → x ≡ y
    by true y there back = sym (there refl)
    by false true there back = back refl
    by false false there back = refl

-- what is found is a member that passes
pub found : {X : Type 0} (P : X → Type 0) (p : X → Bool) (xs : List X) (x : X) → All P xs → find p xs ≡ Some x → P x × (p x ≡ true)
found P p [] x all is = absurd (cc)
found P p (y ∷ ys) x all is = by (p y) refl is (λ later. found P p ys x (λ k d lt. all (suc k) d (omega (arith, lt))) later)
  where
    by : (b : Bool) → p y ≡ b → cond b (Some y) (find p ys) ≡ Some x → (find p ys ≡ Some x → P x × (p x ≡ true)) → P x × (p x ≡ true)
    by true passes is rest =
        let same : y ≡ x = cc in
        (subst P same (all 0 y (omega arith)), subst (λ z. p z ≡ true) same passes)
    by false passes is rest = rest is

pub find_map : {X Y : Type 0} (p : Y → Bool) (f : X → Y) (xs : List X) → find p (map f xs) ≡ option_map f (find (λ x. p (f x)) xs)
find_map p f [] = refl
find_map p f (x ∷ xs) = by (p (f x)) (find_map p f xs)
  where
    by : (b : Bool) → find p (map f xs) ≡ option_map f (find (λ y. p (f y)) xs) → cond b (Some (f x)) (find p (map f xs)) ≡ option_map f (cond b (Some x) (find (λ y. p (f y)) xs))
    by true rest = refl
    by false rest = rest

names_differ : (a b : List ℕ) → IsNameBefore a b → bytes_eq a b ≡ false
names_differ a b before = sym (is_eq-slice_cmp a b) ∙ ap is_eq before

abbrev pub AreRising : List ClusterEntry → Type 0
AreRising entries = AllPairs (λ a b. IsNameBefore a.name b.name) entries

-- a cluster is found by its own name
pub named_itself : (entries : List ClusterEntry) (k : ℕ) (d : ClusterEntry) → AreRising entries → k < length entries → entry_named (get_or entries k d).name entries ≡ Some (get_or entries k d)
named_itself [] k d rising lt = absurd (omega (arith, lt))
named_itself (e ∷ es) zero d rising lt = ap (λ (b : Bool). cond b (Some e) (entry_named e.name es)) ((bytes_eq-Decides e.name e.name).1 refl)
named_itself (e ∷ es) (suc k) d rising lt =
    let name : Name = (get_or es k d).name in
    ap (λ (b : Bool). cond b (Some e) (entry_named name es)) (names_differ e.name name (rising 0 (suc k) d (omega arith) lt))
    ∙ named_itself es k d (λ i j x less within. rising (suc i) (suc j) x (omega (arith, less)) (omega (arith, within))) (omega (arith, lt))

-- ---- the trees before

-- trees of some leaves, where there are trees
abbrev HasGrown : Reports → Option (Pair Tree) → Type 0
HasGrown reports None = Unit {0}
HasGrown reports (Some trees) = (leaves : Leaves) × IsGrownPair reports leaves trees

stand_grown : (reports : Reports) (state : Result Leaves Reason) (trees : Option (Pair Tree)) → StandsFor reports state trees → HasGrown reports trees
stand_grown reports (Ok leaves) (Some trees) is = (leaves, is)
stand_grown reports (Ok leaves) None is = tt
stand_grown reports (Err reason) (Some trees) is = absurd is
stand_grown reports (Err reason) None is = tt

stand_kept : (reports : Reports) (state : Result Leaves Reason) (trees : Option (Pair Tree)) → StandsFor reports state trees → kept.trees_in (kept_state reports trees state) ≡ option_map pair_facts trees
stand_kept reports (Ok leaves) (Some trees) is = refl
stand_kept reports (Ok leaves) None is = absurd is
stand_kept reports (Err reason) (Some trees) is = absurd is
stand_kept reports (Err reason) None is = refl

abbrev pub Stands : Reports → List ClusterTrees → ClusterEntry → Type 0
Stands reports trees c = StandsFor reports c.state (trees_of c.name trees)

-- the trees that a name had, and what was kept of them
pub record HadTrees (reports : Reports) (name : Name) (config : Option Config) (trees : List ClusterTrees) : Type 0 where
  pub grown : HasGrown reports (trees_of name trees)
  pub kept_are : option_and_then kept.trees_of (cluster_named name (kept_clusters reports config trees)) ≡ option_map pair_facts (trees_of name trees)

had_by : (found_entry : Option ClusterEntry) (reports : Reports) (name : Name) (config : Config) (trees : List ClusterTrees) → entry_named name config.clusters ≡ found_entry → AreGrown reports config trees →
    HasGrown reports (trees_of name trees) × (option_and_then kept.trees_of (option_map (kept_cluster reports trees) found_entry) ≡ option_map pair_facts (trees_of name trees))
had_by None reports name config trees is grown =
    let none : trees_of name trees ≡ None = grown.only name is in
    (subst (HasGrown reports) (sym none) tt, ap (option_map pair_facts) (sym none))
had_by (Some e) reports name config trees is grown =
    let (stands, passes) = found (Stands reports trees) (λ c. bytes_eq c.name name) config.clusters e grown.each is in
    let same : e.name ≡ name = (bytes_eq-Decides e.name name).0 passes in
    let here : StandsFor reports e.state (trees_of name trees) = subst (λ (n : Name). StandsFor reports e.state (trees_of n trees)) same stands in (
      stand_grown reports e.state (trees_of name trees) here,
      ap (λ (n : Name). kept.trees_in (kept_state reports (trees_of n trees) e.state)) same ∙ stand_kept reports e.state (trees_of name trees) here,
    )

pub had_trees : (reports : Reports) (name : Name) (config : Option Config) (trees : List ClusterTrees) → AreGrownTrees reports config trees → HadTrees reports name config trees
had_trees reports name None trees grown =
    let none : trees_of name trees ≡ None = ap (trees_of name) grown in
    record { grown = subst (HasGrown reports) (sym none) tt; kept_are = ap (option_map pair_facts) (sym none) }
had_trees reports name (Some config) trees grown =
    let (first, second) = had_by (entry_named name config.clusters) reports name config trees refl grown in
    record {
      grown = first;
      kept_are = ap (λ (o : Option Cluster). option_and_then kept.trees_of o) (find_map (λ (c : Cluster). bytes_eq c.entry.name name) (kept_cluster reports trees) config.clusters) ∙ second;
    }

-- ---- the trees after

abbrev pub state_trees : Present → List ClusterTrees → Name → Result Leaves Reason → Option (Pair Tree)
state_trees p old name (Err reason) = None
state_trees p old name (Ok leaves) = Some (trees_with p leaves (trees_of name old))

abbrev pub entry_trees : Present → List ClusterTrees → ClusterEntry → Option (Pair Tree)
entry_trees p old c = state_trees p old c.name c.state

abbrev entry_with : Name → Result Leaves Reason → ClusterEntry
entry_with name state = record { name = name; state = state }

cluster_trees_are : (p : Present) (old : List ClusterTrees) (name : Name) (state : Result Leaves Reason) → cluster_trees p old (entry_with name state) ≡ option_map (with_trees name) (state_trees p old name state)
cluster_trees_are p old name (Ok leaves) = refl
cluster_trees_are p old name (Err reason) = refl

none_later : (name : Name) (entries : List ClusterEntry) → All (λ c. bytes_eq c.name name ≡ false) entries → entry_named name entries ≡ None
none_later name [] all = refl
none_later name (e ∷ es) all = ap (λ (b : Bool). cond b (Some e) (entry_named name es)) (all 0 e (omega arith)) ∙ none_later name es (λ k d lt. all (suc k) d (omega (arith, lt)))

abbrev consed : Option ClusterTrees → List ClusterTrees → List ClusterTrees
consed None rest = rest
consed (Some trees) rest = trees ∷ rest

-- the trees of a name among those of one more cluster
one_more : (same : Bool) (name other : Name) (here : Option (Pair Tree)) (rest : List ClusterTrees) (later : Option (Pair Tree)) → bytes_eq name other ≡ same → trees_of name rest ≡ later → (same ≡ true → later ≡ None) →
    trees_of name (consed (option_map (with_trees other) here) rest) ≡ cond same here later
one_more true name other None rest later is more none = more ∙ none refl
one_more true name other (Some trees) rest later is more none =
    ap (λ (b : Bool). option_map trees_in (cond b (Some (with_trees other trees)) (find (λ c. bytes_eq name c.cluster) rest))) is
one_more false name other None rest later is more none = more
one_more false name other (Some trees) rest later is more none =
    ap (λ (b : Bool). option_map trees_in (cond b (Some (with_trees other trees)) (find (λ c. bytes_eq name c.cluster) rest))) is ∙ more

and_then_by : (same : Bool) (p : Present) (old : List ClusterTrees) (c : ClusterEntry) (later : Option ClusterEntry) → cond same (entry_trees p old c) (option_and_then (entry_trees p old) later) ≡ option_and_then (entry_trees p old) (cond same (Some c) later)
and_then_by true p old c later = refl
and_then_by false p old c later = refl

pub new_trees : (p : Present) (old : List ClusterTrees) (name : Name) (entries : List ClusterEntry) → AreRising entries → trees_of name (filter_map (cluster_trees p old) entries) ≡ option_and_then (entry_trees p old) (entry_named name entries)
new_trees p old name [] rising = refl
new_trees p old name (e ∷ es) rising =
    let rest : List ClusterTrees = filter_map (cluster_trees p old) es in
    let later : Option (Pair Tree) = option_and_then (entry_trees p old) (entry_named name es) in
    let more : trees_of name rest ≡ later = new_trees p old name es (λ i j x less within. rising (suc i) (suc j) x (omega (arith, less)) (omega (arith, within))) in
    let other : bytes_eq name e.name ≡ true → (k : ℕ) (d : ClusterEntry) → k < length es → bytes_eq (get_or es k d).name name ≡ false =
    λ same k d lt. same_both (get_or es k d).name name ∙ (ap (λ (n : Name). bytes_eq n (get_or es k d).name) ((bytes_eq-Decides name e.name).0 same) ∙ names_differ e.name (get_or es k d).name (rising 0 (suc k) d (omega arith) (omega (arith, lt)))) in
    let none : bytes_eq name e.name ≡ true → later ≡ None = λ same. ap (option_and_then (entry_trees p old)) (none_later name es (other same)) in
    ap (λ (o : Option ClusterTrees). trees_of name (consed o rest)) (cluster_trees_are p old e.name e.state)
    ∙ (one_more (bytes_eq name e.name) name e.name (entry_trees p old e) rest later refl more none
    ∙ (ap (λ (b : Bool). cond b (entry_trees p old e) later) (same_both name e.name) ∙ and_then_by (bytes_eq e.name name) p old e (entry_named name es)))

-- those of a cluster of the configuration
pub trees_here : (p : Present) (old : List ClusterTrees) (config : Config) (k : ℕ) (d : ClusterEntry) → AreRising config.clusters → k < length config.clusters →
    trees_of (get_or config.clusters k d).name (trees_after p old (Some config)) ≡ entry_trees p old (get_or config.clusters k d)
trees_here p old config k d rising lt =
    new_trees p old (get_or config.clusters k d).name config.clusters rising ∙ ap (option_and_then (entry_trees p old)) (named_itself config.clusters k d rising lt)

-- ---- one step

grown_with : (p : Present) (last reports : Reports) (leaves : Leaves) (old : Option (Pair Tree)) → AreReportsOf p.state reports → AreLawfulLeaves leaves → HasGrown last old → IsGrownPair reports leaves (trees_with p leaves old)
grown_with p last reports leaves None agree lawful grown = trees_grown p last reports leaves leaves None agree lawful tt
grown_with p last reports leaves (Some old) agree lawful grown = trees_grown p last reports leaves grown.0 (Some old) agree lawful grown.1

follow_with : (p : Present) (last reports : Reports) (leaves : Leaves) (old : Option (Pair Tree)) → AreReportsOf p.state reports → AreLawfulLeaves leaves → HasGrown last old → pair_facts (trees_with p leaves old) ≡ steps.trees_after p.now reports leaves (option_map pair_facts old)
follow_with p last reports leaves None agree lawful grown = trees_follow p last reports leaves leaves None agree lawful tt
follow_with p last reports leaves (Some old) agree lawful grown = trees_follow p last reports leaves grown.0 (Some old) agree lawful grown.1

state_stands : (p : Present) (last reports : Reports) (old : List ClusterTrees) (name : Name) (state : Result Leaves Reason) → AreReportsOf p.state reports → IfOk state AreLawfulLeaves → HasGrown last (trees_of name old) → StandsFor reports state (state_trees p old name state)
state_stands p last reports old name (Ok leaves) agree lawful grown = grown_with p last reports leaves (trees_of name old) agree lawful grown
state_stands p last reports old name (Err reason) agree lawful grown = tt

state_follows : (p : Present) (last reports : Reports) (old : List ClusterTrees) (name : Name) (state : Result Leaves Reason) → AreReportsOf p.state reports → IfOk state AreLawfulLeaves → HasGrown last (trees_of name old) →
    state_after p.now reports state (option_map pair_facts (trees_of name old)) ≡ kept_state reports (state_trees p old name state) state
state_follows p last reports old name (Ok leaves) agree lawful grown =
    ap (λ (trees : Pair TreeFacts). let st : Result Standing Reason = Ok (standing reports trees) in st) (sym (follow_with p last reports leaves (trees_of name old) agree lawful grown))
state_follows p last reports old name (Err reason) agree lawful grown = refl

-- the trees after a driver's entry are those of its configuration
pub all_grown : (p : Present) (last reports : Reports) (before : Option Config) (old : List ClusterTrees) (config : Config) → AreReportsOf p.state reports → IsLawfulConfig config → AreGrownTrees last before old → AreGrown reports config (trees_after p old (Some config))
all_grown p last reports before old config agree lawful grown = record {
  each = λ k d lt.
      let c : ClusterEntry = get_or config.clusters k d in
      subst (StandsFor reports c.state) (sym (trees_here p old config k d lawful.rising lt)) (state_stands p last reports old c.name c.state agree (lawful.clusters k d lt) (had_trees last c.name before old grown).grown);
  only = λ name none. new_trees p old name config.clusters lawful.rising ∙ ap (option_and_then (entry_trees p old)) none;
}

pub map_all : {A B : Type 0} (f g : A → B) (xs : List A) → All (λ x. f x ≡ g x) xs → map f xs ≡ map g xs
map_all f g [] each = refl
map_all f g (x ∷ xs) each = rw (each 0 x (omega arith), map_all f g xs (λ k d lt. each (suc k) d (omega (arith, lt)))) refl

abbrev cluster_with : ClusterEntry → Result Standing Reason → Cluster
cluster_with entry state = record { entry = entry; state = state }

-- one step on what is kept of the trees gives what is kept of them one driver's entry later
pub clusters_follow : (p : Present) (last reports : Reports) (before : Option Config) (old : List ClusterTrees) (config : Config) → AreReportsOf p.state reports → IsLawfulConfig config → AreGrownTrees last before old →
    clusters_after p.now reports config.clusters (kept_clusters last before old) ≡ kept_clusters reports (Some config) (trees_after p old (Some config))
clusters_follow p last reports before old config agree lawful grown =
    let was : List Cluster = kept_clusters last before old in
    map_all (λ (c : ClusterEntry). cluster_after p.now reports c (cluster_named c.name was)) (kept_cluster reports (trees_after p old (Some config))) config.clusters (λ k d lt.
    let c : ClusterEntry = get_or config.clusters k d in
    let had = had_trees last c.name before old grown in
    ap (cluster_with c)
    (ap (state_after p.now reports c.state) had.kept_are
    ∙ (state_follows p last reports old c.name c.state agree (lawful.clusters k d lt) had.grown
    ∙ ap (λ (o : Option (Pair Tree)). kept_state reports o c.state) (sym (trees_here p old config k d lawful.rising lt)))))

-- ---- what is seen of them

state_seen : (states : Name → State) (reports : Reports) (trees : List ClusterTrees) (name : Name) (state : Result Leaves Reason) (here : Option (Pair Tree)) → trees_of name trees ≡ here → AreReportsOf states reports → StandsFor reports state here →
    cluster_view states trees (entry_with name state) ≡ view_in (kept_state reports here state)
state_seen states reports trees name (Ok leaves) (Some pair) is agree grown =
    ap (λ (o : Option (Pair Tree)). view_with states o) is
    ∙ ap (λ (view : TreeView). let v : Result TreeView Reason = Ok view in v) (view_is states reports pair agree grown.serving grown.waiting)
state_seen states reports trees name (Ok leaves) None is agree grown = absurd grown
state_seen states reports trees name (Err reason) (Some pair) is agree grown = absurd grown
state_seen states reports trees name (Err reason) None is agree grown = refl

pub cluster_seen : (states : Name → State) (reports : Reports) (trees : List ClusterTrees) (c : ClusterEntry) → AreReportsOf states reports → StandsFor reports c.state (trees_of c.name trees) →
    cluster_view states trees c ≡ view_in (kept_cluster reports trees c).state
cluster_seen states reports trees c agree stands = state_seen states reports trees c.name c.state (trees_of c.name trees) refl agree stands

pub map_map : {A B C : Type 0} (g : B → C) (f : A → B) (xs : List A) → map g (map f xs) ≡ map (λ x. g (f x)) xs
map_map g f [] = refl
map_map g f (x ∷ xs) = ap (λ ys. g (f x) ∷ ys) (map_map g f xs)

-- the views of what is kept are those of the trees
pub views_are : (states : Name → State) (reports : Reports) (trees : List ClusterTrees) (config : Config) → AreReportsOf states reports → AreGrown reports config trees → views_of (kept_clusters reports (Some config) trees) ≡ views states trees config
views_are states reports trees config agree grown =
    map_map (λ (c : Cluster). view_in c.state) (kept_cluster reports trees) config.clusters
    ∙ sym (map_all (cluster_view states trees) (λ (c : ClusterEntry). view_in (kept_cluster reports trees c).state) config.clusters (λ k d lt. cluster_seen states reports trees (get_or config.clusters k d) agree (grown.each k d lt)))
