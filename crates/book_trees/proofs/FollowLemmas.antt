-- The trees follow after an event came.
use Rattle.std.proofs.Common.{◌≡◌, ℕ, Bool, List, [], ◌∷◌, map, Option, Some, None, Result, refl, sym, ap, ◌∙◌, subst}
use Rattle.std.specs.Prelude.{IfSome}
use Rattle.xc_base.specs.declared.names.Time.{Time}
use Rattle.xc_base.specs.declared.reason.Reason.{Reason}
use Rattle.xds_config.specs.declared.config.ClusterEntry.{ClusterEntry}
use Rattle.xds_config.specs.declared.config.Config.{Config}
use Rattle.xds_config.specs.Configs.{IsLawfulConfig}
use Rattle.xds_history.specs.tree_steps.Reports.{Reports}
use Rattle.xds_history.specs.tree_steps.declared.tree_view.TreeView.{TreeView}
use Rattle.cluster_tree.specs.declared.cluster_trees.Cluster.{Cluster}
use Rattle.cluster_tree.specs.StandingTrees.{Forest, IsUpdatedWith, clusters_after, entries_of, forest_after, views_of}
use Rattle.cluster_tree.specs.ViewChanges.{MarkChanges, MarkChangesInPlace}
use Rattle.call_journal.specs.declared.event.DriverEvent.{DriverEvent}
use Rattle.call_journal.specs.declared.reply.DriverReply.{DriverReply}
use Rattle.call_journal.specs.declared.entry.Entry.{Entry}
use Rattle.xds_history.specs.declared.page.ClusterTrees.{ClusterTrees}
use Rattle.xds_history.specs.declared.page.Page.{Page}
use Rattle.xds_history.specs.Page.{config_now, trees_now}
use Rattle.xds_history.specs.Trees.{trees_after}
use Rattle.xds_history.specs.Pages.{present_after}
use Rattle.book_trees.specs.declared.reported_trees.ReportedTrees.{ReportedTrees}
use Rattle.book_trees.specs.TreesKept.{AreGrown, AreGrownTrees, AreMarked, AreTreesAt, AreTreesWith, IsPageOf, clusters_of, driven, kept_cluster, kept_clusters, views_after}
use Rattle.book_trees.proofs.GrownLemmas.{all_grown, clusters_follow, map_map, views_are}
use Rattle.book_trees.proofs.MarkedLemmas.{are_marked, marks_by_name}

abbrev pub next_trees : DriverEvent → List Entry → List Page → Config → List ClusterTrees
next_trees event past ps config = trees_after (present_after past event) (trees_now ps) (Some config)

pub next_grown : (event : DriverEvent) (past : List Entry) (ps : List Page) (t : ReportedTrees) (config : Config) → AreTreesWith event past ps t → IsLawfulConfig config → AreGrown t.reports.entries config (next_trees event past ps config)
next_grown event past ps t config with_event lawful =
    all_grown (present_after past event) with_event.last t.reports.entries (config_now ps) (trees_now ps) config with_event.reports_are lawful with_event.forest.grown

pub clusters_are : (event : DriverEvent) (past : List Entry) (ps : List Page) (t : ReportedTrees) (config : Config) (new : Forest) → AreTreesWith event past ps t → IsLawfulConfig config → new ≡ forest_after t.now t.reports.entries config.clusters t.trees →
    new.clusters ≡ kept_clusters t.reports.entries (Some config) (next_trees event past ps config)
clusters_are event past ps t config new with_event lawful step =
    let now : Time = (present_after past event).now in
    ap (λ (f : Forest). f.clusters) step
    ∙ (ap (λ (time : Time). clusters_after time t.reports.entries config.clusters t.trees.clusters) with_event.now_is
    ∙ (ap (λ (cs : List Cluster). clusters_after now t.reports.entries config.clusters cs) with_event.forest.clusters_are
    ∙ clusters_follow (present_after past event) with_event.last t.reports.entries (config_now ps) (trees_now ps) config with_event.reports_are lawful with_event.forest.grown))

pub views_follow : (event : DriverEvent) (past : List Entry) (ps : List Page) (t : ReportedTrees) (config : Config) (new : Forest) (seen : List (Result TreeView Reason)) → IsLawfulConfig config → new ≡ forest_after t.now t.reports.entries config.clusters t.trees →
    seen ≡ views_of new.clusters → AreTreesWith event past ps t → seen ≡ views_after event past ps config
views_follow event past ps t config new seen lawful step is with_event =
    is ∙ (ap views_of (clusters_are event past ps t config new with_event lawful step)
    ∙ views_are (present_after past event).state t.reports.entries (next_trees event past ps config) config with_event.reports_are (next_grown event past ps t config with_event lawful))

marks_with : (event : DriverEvent) (past : List Entry) (ps : List Page) (t : ReportedTrees) (config : Config) (seen : List (Result TreeView Reason)) (marks : List Bool) → IsLawfulConfig config → (with_event : AreTreesWith event past ps t) → seen ≡ views_after event past ps config →
    MarkChanges marks (kept_clusters with_event.last (config_now ps) (trees_now ps)) (kept_clusters t.reports.entries (Some config) (next_trees event past ps config)) → AreMarked marks past ps config seen
marks_with event past ps t config seen marks lawful with_event is changes =
    subst (λ vs. AreMarked marks past ps config vs) (sym is)
    (are_marked marks past ps with_event.last t.reports.entries (present_after past event).state config (next_trees event past ps config) with_event.last_are with_event.forest.grown with_event.reports_are (next_grown event past ps t config with_event lawful) changes)

pub marks_follow : (event : DriverEvent) (past : List Entry) (ps : List Page) (t : ReportedTrees) (config : Config) (new : Forest) (seen : List (Result TreeView Reason)) (marks : List Bool) → IsLawfulConfig config → new ≡ forest_after t.now t.reports.entries config.clusters t.trees →
    seen ≡ views_of new.clusters → MarkChanges marks t.trees.clusters new.clusters → AreTreesWith event past ps t → AreMarked marks past ps config seen
marks_follow event past ps t config new seen marks lawful step is changes with_event =
    marks_with event past ps t config seen marks lawful with_event (views_follow event past ps t config new seen lawful step is with_event)
    (subst (λ cs. MarkChanges marks cs (kept_clusters t.reports.entries (Some config) (next_trees event past ps config))) with_event.forest.clusters_are
    (subst (λ cs. MarkChanges marks t.trees.clusters cs) (clusters_are event past ps t config new with_event lawful step) changes))

pub trees_kept : (event : DriverEvent) (past : List Entry) (ps : List Page) (actor line : ℕ) (reply : DriverReply) (page : Page) (t : ReportedTrees) (config : Config) (new : Forest) → IsLawfulConfig config → new ≡ forest_after t.now t.reports.entries config.clusters t.trees →
    IsUpdatedWith t.reports.entries new → AreTreesWith event past ps t → IsPageOf event past ps (Some config) page → AreTreesAt (driven actor line event reply ∷ past) (page ∷ ps) (record t { trees = new })
trees_kept event past ps actor line reply page t config new lawful step updated with_event page_is =
    let next : List ClusterTrees = next_trees event past ps config in
    record {
      reports_are = with_event.reports_are;
      now_is = with_event.now_is;
      forest = record {
        clusters_are =
            clusters_are event past ps t config new with_event lawful step
            ∙ (ap (λ (c : Option Config). kept_clusters t.reports.entries c next) (sym page_is.config_is) ∙ ap (kept_clusters t.reports.entries page.config) (sym page_is.trees_are));
        updated = updated;
        lawful = subst (λ c. IfSome c IsLawfulConfig) (sym page_is.config_is) lawful;
        grown = subst (λ c. AreGrownTrees t.reports.entries c page.trees) (sym page_is.config_is) (subst (λ ts. AreGrown t.reports.entries config ts) (sym page_is.trees_are) (next_grown event past ps t config with_event lawful));
      };
    }

-- ---- the configuration stays

map_itself : {A : Type 0} (xs : List A) → map (λ x. x) xs ≡ xs
map_itself [] = refl
map_itself (x ∷ xs) = ap (λ ys. x ∷ ys) (map_itself xs)

-- the kept clusters have the entries of the configuration
pub entries_kept : (reports : Reports) (ps : List Page) (config : Option Config) (forest : Forest) → forest.clusters ≡ kept_clusters reports config (trees_now ps) → entries_of forest.clusters ≡ clusters_of config
entries_kept reports ps None forest are = ap entries_of are
entries_kept reports ps (Some config) forest are =
    ap entries_of are ∙ (map_map (λ (c : Cluster). c.entry) (kept_cluster reports (trees_now ps)) config.clusters ∙ map_itself config.clusters)

pub lawful_now : (event : DriverEvent) (past : List Entry) (ps : List Page) (t : ReportedTrees) (config : Config) → AreTreesWith event past ps t → config_now ps ≡ Some config → IsLawfulConfig config
lawful_now event past ps t config with_event is = subst (λ c. IfSome c IsLawfulConfig) is with_event.forest.lawful

step_on : (event : DriverEvent) (past : List Entry) (ps : List Page) (t : ReportedTrees) (config : Config) (new : Forest) → AreTreesWith event past ps t → config_now ps ≡ Some config → new ≡ forest_after t.now t.reports.entries (entries_of t.trees.clusters) t.trees →
    new ≡ forest_after t.now t.reports.entries config.clusters t.trees
step_on event past ps t config new with_event is step =
    let entries : entries_of t.trees.clusters ≡ config.clusters = entries_kept with_event.last ps (config_now ps) t.trees with_event.forest.clusters_are ∙ ap clusters_of is in
    step ∙ ap (λ (es : List ClusterEntry). forest_after t.now t.reports.entries es t.trees) entries

pub views_stay : (event : DriverEvent) (past : List Entry) (ps : List Page) (t : ReportedTrees) (config : Config) (new : Forest) (seen : List (Result TreeView Reason)) → new ≡ forest_after t.now t.reports.entries (entries_of t.trees.clusters) t.trees →
    seen ≡ views_of new.clusters → AreTreesWith event past ps t → config_now ps ≡ Some config → seen ≡ views_after event past ps config
views_stay event past ps t config new seen step is with_event now =
    views_follow event past ps t config new seen (lawful_now event past ps t config with_event now) (step_on event past ps t config new with_event now step) is with_event

pub marks_stay : (event : DriverEvent) (past : List Entry) (ps : List Page) (t : ReportedTrees) (config : Config) (new : Forest) (seen : List (Result TreeView Reason)) (marks : List Bool) → new ≡ forest_after t.now t.reports.entries (entries_of t.trees.clusters) t.trees →
    seen ≡ views_of new.clusters → MarkChangesInPlace marks t.trees.clusters new.clusters → AreTreesWith event past ps t → config_now ps ≡ Some config → AreMarked marks past ps config seen
marks_stay event past ps t config new seen marks step is changes with_event now =
    let lawful = lawful_now event past ps t config with_event now in
    let was : t.trees.clusters ≡ kept_clusters with_event.last (Some config) (trees_now ps) = with_event.forest.clusters_are ∙ ap (λ (c : Option Config). kept_clusters with_event.last c (trees_now ps)) now in
    let next : List ClusterTrees = next_trees event past ps config in
    let made : new.clusters ≡ kept_clusters t.reports.entries (Some config) next = clusters_are event past ps t config new with_event lawful (step_on event past ps t config new with_event now step) in
    marks_with event past ps t config seen marks lawful with_event (views_stay event past ps t config new seen step is with_event now)
    (subst (λ c. MarkChanges marks (kept_clusters with_event.last c (trees_now ps)) (kept_clusters t.reports.entries (Some config) next)) (sym now)
    (marks_by_name marks with_event.last t.reports.entries config (trees_now ps) next lawful.rising
    (subst (λ cs. MarkChangesInPlace marks cs (kept_clusters t.reports.entries (Some config) next)) was (subst (λ cs. MarkChangesInPlace marks t.trees.clusters cs) made changes))))

pub trees_kept_on : (event : DriverEvent) (past : List Entry) (ps : List Page) (config : Config) (actor line : ℕ) (reply : DriverReply) (page : Page) (t : ReportedTrees) (new : Forest) → new ≡ forest_after t.now t.reports.entries (entries_of t.trees.clusters) t.trees →
    IsUpdatedWith t.reports.entries new → AreTreesWith event past ps t → config_now ps ≡ Some config → IsPageOf event past ps (Some config) page → AreTreesAt (driven actor line event reply ∷ past) (page ∷ ps) (record t { trees = new })
trees_kept_on event past ps config actor line reply page t new step updated with_event now page_is =
    trees_kept event past ps actor line reply page t config new (lawful_now event past ps t config with_event now) (step_on event past ps t config new with_event now step) updated with_event page_is
