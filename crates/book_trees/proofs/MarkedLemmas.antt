-- Which of what is seen differs from before, in the words of the history.
use Rattle.std.proofs.Common.{◌≡◌, ℕ, zero, suc, ◌<◌, Bool, true, false, ◌||◌, List, [], ◌∷◌, length, map, get_or, Option, Some, None, Result, Err, refl, sym, ap, ◌∙◌, subst, arith}
use Rattle.std.specs.Prelude.{bytes_eq, option_map}
use Rattle.std.specs.List.{list_any}
use Rattle.std.specs.Option.{option_and_then}
use Rattle.std.proofs.lemmas.List.{length-map, get_or-map, ext_get_or}
use Rattle.xc_base.specs.declared.names.State.{State}
use Rattle.xc_base.specs.declared.reason.Reason.{Reason}
use Rattle.xds_config.specs.declared.config.ClusterEntry.{ClusterEntry}
use Rattle.xds_config.specs.declared.config.Config.{Config}
use Rattle.xds_config.specs.Configs.{IsLawfulConfig}
use Rattle.xds_history.specs.tree_steps.Reports.{Reports}
use Rattle.xds_history.specs.tree_steps.declared.tree_view.TreeView.{TreeView}
use Rattle.cluster_tree.specs.declared.cluster_trees.Cluster.{Cluster}
use Rattle.cluster_tree.specs.StandingTrees.{cluster_named}
use Rattle.cluster_tree.specs.ViewChanges.{seen_of, seen_named, IsChangeMark, MarkChanges, MarkChangesInPlace}
use Rattle.call_journal.specs.declared.entry.Entry.{Entry}
use Rattle.xds_history.specs.config_assembly.Orders.{Name}
use Rattle.xds_history.specs.declared.page.ClusterTrees.{ClusterTrees}
use Rattle.xds_history.specs.declared.page.Page.{Page}
use Rattle.xds_history.specs.Clock.{state}
use Rattle.xds_history.specs.Page.{config_now, trees_now}
use Rattle.xds_history.specs.Pickers.{cluster_view, views}
use Rattle.xds_history.specs.Right.{Shown, standing}
use Rattle.book_trees.specs.TreesKept.{AreGrown, AreGrownTrees, AreMarked, AreReportsOf, entry_named, kept_cluster, kept_clusters, present, seen_before, seen_in}
use Rattle.book_trees.specs.ReportedLaws.{MarksTellChange, stands_now}
use Rattle.book_trees.proofs.GrownLemmas.{AreRising, Stands, cluster_seen, find_map, found, named_itself}

-- ---- what was seen of the cluster of a name

seen_by : (found_entry : Option ClusterEntry) (states : Name → State) (reports : Reports) (name : Name) (config : Config) (trees : List ClusterTrees) → entry_named name config.clusters ≡ found_entry → AreReportsOf states reports → AreGrown reports config trees →
    option_map seen_of (option_map (kept_cluster reports trees) found_entry) ≡ option_map (cluster_view states trees) found_entry
seen_by None states reports name config trees is agree grown = refl
seen_by (Some e) states reports name config trees is agree grown =
    let (stands, passes) = found (Stands reports trees) (λ c. bytes_eq c.name name) config.clusters e grown.each is in
    ap (λ (v : Result TreeView Reason). let o : Option (Result TreeView Reason) = Some v in o) (sym (cluster_seen states reports trees e agree stands))

pub seen_named_is : (states : Name → State) (reports : Reports) (name : Name) (config : Option Config) (trees : List ClusterTrees) → AreReportsOf states reports → AreGrownTrees reports config trees →
    seen_named name (kept_clusters reports config trees) ≡ option_and_then (seen_in states trees name) config
seen_named_is states reports name None trees agree grown = refl
seen_named_is states reports name (Some config) trees agree grown =
    ap (λ (o : Option Cluster). option_map seen_of o) (find_map (λ (c : Cluster). bytes_eq c.entry.name name) (kept_cluster reports trees) config.clusters)
    ∙ seen_by (entry_named name config.clusters) states reports name config trees refl agree grown

-- ---- marks

marked_by : (mark : Bool) (a b : Option (Result TreeView Reason)) (v w : Result TreeView Reason) → a ≡ b → v ≡ w → IsChangeMark mark a v → IsChangeMark mark b w
marked_by mark a b v w same seen is = subst (λ o. IsChangeMark mark o w) same (subst (λ x. IsChangeMark mark a x) seen is)

pub are_marked : (marks : List Bool) (past : List Entry) (ps : List Page) (last reports : Reports) (states : Name → State) (config : Config) (new : List ClusterTrees) → AreReportsOf (state past) last → AreGrownTrees last (config_now ps) (trees_now ps) →
    AreReportsOf states reports → AreGrown reports config new → MarkChanges marks (kept_clusters last (config_now ps) (trees_now ps)) (kept_clusters reports (Some config) new) → AreMarked marks past ps config (views states new config)
are_marked marks past ps last reports states config new was before agree grown changes =
    let kept : ClusterEntry → Cluster = kept_cluster reports new in
    let long : length (map kept config.clusters) ≡ length config.clusters = length-map config.clusters kept in
    record {
      count = changes.count ∙ long;
      seen_count = length-map config.clusters (cluster_view states new);
      each = λ place c v lt.
          let here : ClusterEntry = get_or config.clusters place c in
          let at : get_or (map kept config.clusters) place (kept c) ≡ kept here = get_or-map kept config.clusters place c (kept c) lt in
          let seen : get_or (views states new config) place v ≡ cluster_view states new here = get_or-map (cluster_view states new) config.clusters place c v lt in
          let mark = changes.each place (kept c) (omega (arith, long, lt)) in
          marked_by (get_or marks place false) (seen_named (get_or (map kept config.clusters) place (kept c)).entry.name (kept_clusters last (config_now ps) (trees_now ps))) (seen_before past ps here.name)
          (seen_of (get_or (map kept config.clusters) place (kept c))) (get_or (views states new config) place v)
          (ap (λ (x : Cluster). seen_named x.entry.name (kept_clusters last (config_now ps) (trees_now ps))) at ∙ seen_named_is (state past) last here.name (config_now ps) (trees_now ps) was before)
          (ap seen_of at ∙ (sym (cluster_seen states reports new here agree (grown.each place c lt)) ∙ sym seen)) mark;
    }

-- where the configuration stays, the cluster of a name is the one at its place
pub marks_by_name : (marks : List Bool) (last reports : Reports) (config : Config) (old new : List ClusterTrees) → AreRising config.clusters → MarkChangesInPlace marks (kept_clusters last (Some config) old) (kept_clusters reports (Some config) new) →
    MarkChanges marks (kept_clusters last (Some config) old) (kept_clusters reports (Some config) new)
marks_by_name marks last reports config old new rising changes =
    let kept : ClusterEntry → Cluster = kept_cluster reports new in
    let was : ClusterEntry → Cluster = kept_cluster last old in
    let long : length (map kept config.clusters) ≡ length config.clusters = length-map config.clusters kept in
    record {
      count = changes.count;
      each = λ place d lt.
          let within : place < length config.clusters = omega (arith, long, lt) in
          let c : ClusterEntry = get_or config.clusters place d.entry in
          let now_at : get_or (map kept config.clusters) place d ≡ kept c = get_or-map kept config.clusters place d.entry d within in
          let was_at : get_or (map was config.clusters) place d ≡ was c = get_or-map was config.clusters place d.entry d within in
          let named : cluster_named c.name (map was config.clusters) ≡ Some (was c) =
          find_map (λ (x : Cluster). bytes_eq x.entry.name c.name) was config.clusters ∙ ap (option_map was) (named_itself config.clusters place d.entry rising within) in
          let before : seen_named (get_or (map kept config.clusters) place d).entry.name (map was config.clusters) ≡ Some (seen_of (get_or (map was config.clusters) place d)) =
          ap (λ (x : Cluster). seen_named x.entry.name (map was config.clusters)) now_at ∙ (ap (option_map seen_of) named ∙ ap (λ (x : Cluster). let o : Option (Result TreeView Reason) = Some (seen_of x) in o) (sym was_at)) in
          marked_by (get_or marks place false) (Some (seen_of (get_or (map was config.clusters) place d))) (seen_named (get_or (map kept config.clusters) place d).entry.name (map was config.clusters))
          (seen_of (get_or (map kept config.clusters) place d)) (seen_of (get_or (map kept config.clusters) place d)) (sym before) refl (changes.each place d lt);
    }

-- ---- what stands differs where the configuration or a view does

-- a mark that is set stands at some place
any_at : (marks : List Bool) → list_any (λ mark. mark) marks ≡ true → (k : ℕ) × (k < length marks) × (get_or marks k false ≡ true)
any_at [] is = absurd (cc)
any_at (true ∷ marks) is = (0, omega arith, refl)
any_at (false ∷ marks) is = let (k, lt, set) = any_at marks is in (suc k, omega (arith, lt), set)

none_at : (marks : List Bool) (k : ℕ) → list_any (λ mark. mark) marks ≡ false → get_or marks k false ≡ false
none_at [] k is = refl
none_at (true ∷ marks) k is = absurd (cc)
none_at (false ∷ marks) zero is = refl
none_at (false ∷ marks) (suc k) is = none_at marks k is

neither : (a b : Bool) → (a || b) ≡ false → (a ≡ false) × (b ≡ false)
neither true b is = absurd (cc)
neither false b is = (refl, is)

some_is : {X : Type 0} (x y : X) → Some x ≡ Some y → x ≡ y
some_is x y is = cc

abbrev stands_of : (Name → State) → List ClusterTrees → Config → Shown
stands_of states trees config = (config, views states trees config)

-- what was seen of a cluster of the configuration, by its place
seen_here : (past : List Entry) (ps : List Page) (config : Config) (place : ℕ) (c : ClusterEntry) → config_now ps ≡ Some config → AreRising config.clusters → place < length config.clusters →
    seen_before past ps (get_or config.clusters place c).name ≡ Some (cluster_view (state past) (trees_now ps) (get_or config.clusters place c))
seen_here past ps config place c is rising lt =
    ap (option_and_then (seen_in (state past) (trees_now ps) (get_or config.clusters place c).name)) is
    ∙ ap (option_map (cluster_view (state past) (trees_now ps))) (named_itself config.clusters place c rising lt)

abbrev no_entry : ClusterEntry
no_entry = record { name = []; state = Err Reason.Failing }

all_seen : (past : List Entry) (ps : List Page) (config : Config) (seen : List (Result TreeView Reason)) (marks : List Bool) → IsLawfulConfig config → AreMarked marks past ps config seen → config_now ps ≡ Some config → list_any (λ mark. mark) marks ≡ false →
    views (state past) (trees_now ps) config ≡ seen
all_seen past ps config seen marks lawful marked is none =
    let f : ClusterEntry → Result TreeView Reason = cluster_view (state past) (trees_now ps) in
    let d : Result TreeView Reason = Err Reason.Failing in
    let long : length (map f config.clusters) ≡ length config.clusters = length-map config.clusters f in
    let seen_long = marked.seen_count in
    ext_get_or d (map f config.clusters) seen (long ∙ sym seen_long) (λ place lt.
    let within : place < length config.clusters = omega (arith, long, lt) in
    let before : seen_before past ps (get_or config.clusters place no_entry).name ≡ Some (get_or seen place d) = (marked.each place no_entry d within).stays (none_at marks place none) in
    get_or-map f config.clusters place no_entry d within
    ∙ some_is (f (get_or config.clusters place no_entry)) (get_or seen place d) (sym (seen_here past ps config place no_entry is lawful.rising within) ∙ before))

stays_so : (past : List Entry) (ps : List Page) (config : Config) (seen : List (Result TreeView Reason)) (marks : List Bool) → IsLawfulConfig config → AreMarked marks past ps config seen → config_now ps ≡ Some config → list_any (λ mark. mark) marks ≡ false →
    stands_now past ps ≡ Some (config, seen)
stays_so past ps config seen marks lawful marked is none =
    ap (λ (o : Option Config). standing (present past) o (trees_now ps)) is
    ∙ ap (λ (vs : List (Result TreeView Reason)). let o : Option Shown = Some (config, vs) in o) (all_seen past ps config seen marks lawful marked is none)

-- what stands, taken apart
pub record StandsAs (states : Name → State) (now : Option Config) (trees : List ClusterTrees) (config : Config) (seen : List (Result TreeView Reason)) : Type 0 where
  pub config_is : now ≡ Some config
  pub seen_is : views states trees config ≡ seen

stands_as : (past : List Entry) (now : Option Config) (trees : List ClusterTrees) (config : Config) (seen : List (Result TreeView Reason)) → standing (present past) now trees ≡ Some (config, seen) → StandsAs (state past) now trees config seen
stands_as past None trees config seen is = absurd (cc)
stands_as past (Some c) trees config seen is =
    let both : stands_of (state past) trees c ≡ (config, seen) = some_is (stands_of (state past) trees c) (config, seen) is in
    let same : c ≡ config = ap (λ (x : Shown). x.0) both in
    record {
      config_is = ap (λ (x : Config). let o : Option Config = Some x in o) same;
      seen_is = ap (λ (x : Config). views (state past) trees x) (sym same) ∙ ap (λ (x : Shown). x.1) both;
    }

no_mark : (past : List Entry) (ps : List Page) (config : Config) (seen : List (Result TreeView Reason)) (marks : List Bool) → IsLawfulConfig config → AreMarked marks past ps config seen → StandsAs (state past) (config_now ps) (trees_now ps) config seen → list_any (λ mark. mark) marks ≡ true → ⊥
no_mark past ps config seen marks lawful marked stands some =
    let (place, lt, set) = any_at marks some in
    let count = marked.count in
    let within : place < length config.clusters = omega (arith, count, lt) in
    let d : Result TreeView Reason = Err Reason.Failing in
    let f : ClusterEntry → Result TreeView Reason = cluster_view (state past) (trees_now ps) in
    (marked.each place no_entry d within).differs set
    (seen_here past ps config place no_entry stands.config_is lawful.rising within
    ∙ ap (λ (v : Result TreeView Reason). let o : Option (Result TreeView Reason) = Some v in o) (sym (get_or-map f config.clusters place no_entry d within) ∙ ap (λ (vs : List (Result TreeView Reason)). get_or vs place d) stands.seen_is))

pub marks_tell_change : MarksTellChange
marks_tell_change past ps config seen marks differs lawful marked mark = record {
  stays = λ off. (let both = neither differs (list_any (λ m. m) marks) off in stays_so past ps config seen marks lawful marked (mark.stays both.0) both.1);
  differs = λ on same. by differs mark on (stands_as past (config_now ps) (trees_now ps) config seen same);
}
  where
    by : (b : Bool) → IsChangeMark b (config_now ps) config → (b || list_any (λ m. m) marks) ≡ true → StandsAs (state past) (config_now ps) (trees_now ps) config seen → ⊥
    by true is on stands = is.differs refl stands.config_is
    by false is on stands = no_mark past ps config seen marks lawful marked stands on
