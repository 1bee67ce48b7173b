-- A cluster that is the one that stood at its place, in the words of the history.
use Rattle.std.proofs.Common.{◌≡◌, ℕ, zero, suc, Bool, false, List, [], length, map, get_or, Option, Some, None, Result, refl, sym, ap, ◌∙◌, subst}
use Rattle.std.specs.Prelude.{option_map, slice_get}
use Rattle.std.specs.Option.{option_and_then, option_map_or}
use Rattle.std.proofs.lemmas.List.{get_or-map, length-map}
use Rattle.std.proofs.lemmas.Option.{get_or_from_slice_get, slice_get-get_or, slice_get-map, slice_get_within}
use Rattle.xc_base.specs.declared.reason.Reason.{Reason}
use Rattle.xds_config.specs.declared.config.ClusterEntry.{ClusterEntry}
use Rattle.xds_config.specs.declared.config.Config.{Config}
use Rattle.xds_config.specs.Configs.{IsLawfulConfig}
use Rattle.xds_history.specs.tree_steps.Reports.{Reports}
use Rattle.xds_history.specs.tree_steps.TreeSteps.{chosen_localities}
use Rattle.xds_history.specs.tree_steps.declared.tree_view.TreeView.{TreeView}
use Rattle.cluster_tree.specs.declared.cluster_trees.Cluster.{Cluster}
use Rattle.cluster_tree.specs.declared.cluster_trees.Standing.{Standing}
use Rattle.cluster_tree.specs.StandingTrees.{Forest, forest_after, trees_in, view_in}
use Rattle.cluster_tree.specs.ClusterUsers.{StandBut}
use Rattle.call_journal.specs.declared.event.DriverEvent.{DriverEvent}
use Rattle.call_journal.specs.declared.entry.Entry.{Entry}
use Rattle.xds_history.specs.declared.page.ClusterTrees.{ClusterTrees}
use Rattle.xds_history.specs.declared.page.Page.{Page}
use Rattle.xds_history.specs.Clock.{state}
use Rattle.xds_history.specs.Page.{config_now, trees_now}
use Rattle.xds_history.specs.Pages.{present_after}
use Rattle.xds_history.specs.Pickers.{cluster_view}
use Rattle.xds_history.specs.Trees.{trees_after, trees_of}
use Rattle.book_trees.specs.declared.reported_trees.ReportedTrees.{ReportedTrees}
use Rattle.book_trees.specs.TreesKept.{AreGrown, AreGrownTrees, AreMarked, AreTreesWith, StayInPlace, StaysInPlace, entry_named, kept_cluster, kept_clusters, seen_before, seen_in, views_after}
use Rattle.book_trees.proofs.GrownLemmas.{Stands, cluster_seen, named_itself}
use Rattle.book_trees.proofs.ServedLemmas.{holds_there, localities_stay, served_by}
use Rattle.book_trees.proofs.FollowLemmas.{clusters_are, lawful_now, next_grown, next_trees}

-- a cluster that is kept at a place is that of the entry there
record WasKept (reports : Reports) (config : Option Config) (trees : List ClusterTrees) (place : ℕ) (cluster : Cluster) : Type 0 where
  stood : Config
  config_is : config ≡ Some stood
  entry_is : slice_get stood.clusters place ≡ Some cluster.entry
  cluster_is : kept_cluster reports trees cluster.entry ≡ cluster

none_there : (place : ℕ) (cluster : Cluster) → slice_get [] place ≡ Some cluster → ⊥
none_there zero cluster is = cc
none_there (suc place) cluster is = cc

kept_at : (reports : Reports) (trees : List ClusterTrees) (stood : Config) (place : ℕ) (cluster : Cluster) (o : Option ClusterEntry) → slice_get stood.clusters place ≡ o → option_map (kept_cluster reports trees) o ≡ Some cluster →
    WasKept reports (Some stood) trees place cluster
kept_at reports trees stood place cluster None at is = absurd (cc is)
kept_at reports trees stood place cluster (Some entry) at is =
    let made : Cluster = kept_cluster reports trees entry in
    let same : made ≡ cluster = cc in
    let own : entry ≡ cluster.entry = ap (λ c. c.entry) same in record {
      stood = stood;
      config_is = refl;
      entry_is = at ∙ ap (λ e. Some e) own;
      cluster_is = ap (kept_cluster reports trees) (sym own) ∙ same;
    }

was_kept : (reports : Reports) (config : Option Config) (trees : List ClusterTrees) (place : ℕ) (cluster : Cluster) → slice_get (kept_clusters reports config trees) place ≡ Some cluster → WasKept reports config trees place cluster
was_kept reports None trees place cluster is = absurd (none_there place cluster is)
was_kept reports (Some stood) trees place cluster is =
    kept_at reports trees stood place cluster (slice_get stood.clusters place) refl (sym (slice_get-map (kept_cluster reports trees) stood.clusters place) ∙ is)

-- the cluster at a place without a mark stood there
stood_there : (marks : List Bool) (old new : List Cluster) (place : ℕ) (cluster : Cluster) → StandBut marks old new → slice_get new place ≡ Some cluster → get_or marks place false ≡ false → slice_get old place ≡ Some cluster
stood_there marks old new place cluster stand is mark =
    let both = stand.each place cluster (slice_get_within new place cluster is) mark in
    slice_get-get_or old place cluster both.0 ∙ ap (λ c. Some c) (sym both.1 ∙ get_or_from_slice_get new place cluster cluster is)

-- what is seen of a cluster, and the localities of its chosen child, rest on what is kept of it
stays_in_place : (event : DriverEvent) (past : List Entry) (ps : List Page) (t : ReportedTrees) (config : Config) (place : ℕ) (entry : ClusterEntry) → (with_event : AreTreesWith event past ps t) → IsLawfulConfig config →
    slice_get config.clusters place ≡ Some entry → WasKept with_event.last (config_now ps) (trees_now ps) place (kept_cluster t.reports.entries (next_trees event past ps config) entry) → StaysInPlace event past ps config place entry
stays_in_place event past ps t config place entry with_event lawful is was =
    let new : List ClusterTrees = next_trees event past ps config in
    let reports : Reports = t.reports.entries in
    let last : Reports = with_event.last in
    let grown : AreGrown last was.stood (trees_now ps) = subst (λ o. AreGrownTrees last o (trees_now ps)) was.config_is with_event.forest.grown in
    let stood = holds_there (Stands last (trees_now ps)) was.stood.clusters place entry grown.each was.entry_is in
    let stands = holds_there (Stands reports new) config.clusters place entry (next_grown event past ps t config with_event lawful).each is in
    let localities : Result Standing Reason → List _ = λ standing. option_map_or (λ ts. chosen_localities ts.serving) (trees_in standing) [] in record {
      entry_stays = ap (option_and_then (λ c. slice_get c.clusters place)) was.config_is ∙ was.entry_is;
      seen_stays =
          cluster_seen (state past) last (trees_now ps) entry with_event.last_are stood
          ∙ ap (λ c. view_in c.state) was.cluster_is
          ∙ sym (cluster_seen (present_after past event).state reports new entry with_event.reports_are stands);
      served_stays =
          sym (served_by last entry.state (trees_of entry.name (trees_now ps)) stood)
          ∙ ap (λ c. localities c.state) was.cluster_is
          ∙ served_by reports entry.state (trees_of entry.name new) stands;
    }

-- where the trees followed, each cluster without a mark stands still
pub stay_in_place : (event : DriverEvent) (past : List Entry) (ps : List Page) (t : ReportedTrees) (config : Config) (new : Forest) (marks : List Bool) → IsLawfulConfig config → new ≡ forest_after t.now t.reports.entries config.clusters t.trees →
    StandBut marks t.trees.clusters new.clusters → AreTreesWith event past ps t → StayInPlace marks event past ps config
stay_in_place event past ps t config new marks lawful step stand with_event =
    let kept : ClusterEntry → Cluster = kept_cluster t.reports.entries (next_trees event past ps config) in
    let are : new.clusters ≡ map kept config.clusters = clusters_are event past ps t config new with_event lawful step in record {
      count = stand.count ∙ ap length are ∙ length-map config.clusters kept;
      each = λ place entry is mark.
          let here : slice_get new.clusters place ≡ Some (kept entry) = ap (λ cs. slice_get cs place) are ∙ slice_get-map kept config.clusters place ∙ ap (option_map kept) is in
          let there : slice_get t.trees.clusters place ≡ Some (kept entry) = stood_there marks t.trees.clusters new.clusters place (kept entry) stand here mark in
          stays_in_place event past ps t config place entry with_event lawful is
          (was_kept with_event.last (config_now ps) (trees_now ps) place (kept entry) (ap (λ cs. slice_get cs place) (sym with_event.forest.clusters_are) ∙ there));
    }

-- ---- the configuration stays

pub same_view : (a b : Result TreeView Reason) → (let o : Option (Result TreeView Reason) = Some a in o) ≡ Some b → a ≡ b
same_view a b is = cc

-- a cluster that isn't marked is seen as before
seen_still : (marks : List Bool) (past : List Entry) (ps : List Page) (event : DriverEvent) (config : Config) (place : ℕ) (entry : ClusterEntry) → IsLawfulConfig config → config_now ps ≡ Some config → slice_get config.clusters place ≡ Some entry →
    AreMarked marks past ps config (views_after event past ps config) → get_or marks place false ≡ false →
    cluster_view (state past) (trees_now ps) entry ≡ cluster_view (present_after past event).state (trees_after (present_after past event) (trees_now ps) (Some config)) entry
seen_still marks past ps event config place entry lawful now is marked mark =
    let within = slice_get_within config.clusters place entry is in
    let here : get_or config.clusters place entry ≡ entry = get_or_from_slice_get config.clusters place entry entry is in
    let view = cluster_view (present_after past event).state (trees_after (present_after past event) (trees_now ps) (Some config)) in
    let stays = (marked.each place entry (view entry) within).stays mark in
    let named : entry_named entry.name config.clusters ≡ Some entry =
    subst (λ c. entry_named c.name config.clusters ≡ Some c) here (named_itself config.clusters place entry lawful.rising within) in
    let before : seen_before past ps (get_or config.clusters place entry).name ≡ Some (cluster_view (state past) (trees_now ps) entry) =
    ap (λ c. seen_before past ps c.name) here
    ∙ ap (λ c. option_and_then (seen_in (state past) (trees_now ps) entry.name) c) now
    ∙ ap (option_map (cluster_view (state past) (trees_now ps))) named in
    let after : get_or (map view config.clusters) place (view entry) ≡ view entry = get_or-map view config.clusters place entry (view entry) within ∙ ap view here in
    same_view (cluster_view (state past) (trees_now ps) entry) (view entry) (sym before ∙ stays ∙ ap (λ v. Some v) after)

-- where the configuration stays, each cluster of which the same is seen does
pub seen_in_place : (event : DriverEvent) (past : List Entry) (ps : List Page) (t : ReportedTrees) (config : Config) (marks : List Bool) (seen : List (Result TreeView Reason)) → AreTreesWith event past ps t → config_now ps ≡ Some config →
    seen ≡ views_after event past ps config → AreMarked marks past ps config seen → StayInPlace marks event past ps config
seen_in_place event past ps t config marks seen with_event now are marked =
    let lawful : IsLawfulConfig config = lawful_now event past ps t config with_event now in
    let grown : AreGrown with_event.last config (trees_now ps) = subst (λ o. AreGrownTrees with_event.last o (trees_now ps)) now with_event.forest.grown in
    let views_marked : AreMarked marks past ps config (views_after event past ps config) = subst (AreMarked marks past ps config) are marked in record {
      count = marked.count;
      each = λ place entry is mark.
          let still = seen_still marks past ps event config place entry lawful now is views_marked mark in record {
            entry_stays = ap (option_and_then (λ c. slice_get c.clusters place)) now ∙ is;
            seen_stays = still;
            served_stays = localities_stay past ps with_event.last event config entry with_event.last_are grown lawful now (place, slice_get_within config.clusters place entry is, get_or_from_slice_get config.clusters place entry entry is) still;
          };
    }
