use Rattle.std.proofs.Common.{◌≡◌, Bool, List, length, sym, ap, ◌∙◌, subst, arith}
use Rattle.std.proofs.lemmas.Grind.{common_steps}
use Rattle.std.proofs.lemmas.List.{length-map}
use Rattle.xds_config.specs.declared.config.Config.{Config}
use Rattle.xds_config.specs.declared.config.ClusterEntry.{ClusterEntry}
use Rattle.cluster_tree.specs.StandingTrees.{Forest, ChangesAt, cluster_after, cluster_named, clusters_after, views_of}
use Rattle.cluster_tree.specs.KeptViews.{AreViewsIn}
use Rattle.cluster_tree.specs.ClusterUsers.{AreIndexed, OthersStay, StandBut}
use Rattle.cluster_tree.proofs.ClusterLemmas.{all_follow}
use Rattle.cluster_tree.specs.declared.cluster_trees.Cluster.{Cluster}
use Rattle.cluster_tree.specs.ClusterTimers.{AreTimed}
use Rattle.cluster_tree.proofs.TimerLemmas.{stood_timed}
use Rattle.cluster_tree.proofs.ForestLemmas.{indexed_after, others_stay, updated_with, views_pickable}
use Rattle.cluster_tree.proofs.ViewLemmas.{stay_standing, views_in}
use Rattle.cluster_tree.proofs.trees.Trees.update_renamed.Goals as goal

pub clusters_after-requires-clause-others : goal.clusters_after-requires-clause-others
clusters_after-requires-clause-others c =
    let asked : ChangesAt c.args.changed.now c.args.reports.now.entries (record { now = c.self.inside.time; clusters = c.self.inside.clusters.items }) =
    subst (λ (f : Forest). ChangesAt c.args.changed.now c.args.reports.now.entries f) (sym c.self.view_is) c.requires.changes in
    let long : length c.in_ok-readers.readers.items ≡ length c.self.inside.clusters.items = grind (arith, common_steps) in
    subst (λ (ms : List Bool). OthersStay c.args.self.now.now c.args.now c.args.reports.now.entries ms c.args.self.now.clusters) (sym c.deref.ensures.value)
    (subst (λ (f : Forest). OthersStay f.now c.args.now c.args.reports.now.entries c.in_ok-readers.readers.items f.clusters) c.self.view_is
    (others_stay c.self.inside.index.users c.args.changed.now c.in_ok-readers.readers.items c.self.inside.time c.args.now asked.0 c.args.reports.now.entries c.self.inside.clusters.items asked.1.0 c.self.invariant.indexed c.in_ok-readers.ensures.marked long asked.1.1 asked.2))

pub follow_users-requires-clause-follow : goal.follow_users-requires-clause-follow
follow_users-requires-clause-follow c = all_follow _ _ _ _ _ c.in_ok-next.ensures.clusters

pub views_after-requires : goal.views_after-requires
views_after-requires c = record {
  stay = rw (c.deref-2.ensures.value)
      (stay_standing c.in_ok-next.next.anew c.replace-before.result c.self.inside.clusters.items c.in_ok-next.next.clusters.items
      (subst (λ (f : Forest). StandBut c.in_ok-next.next.anew f.clusters c.in_ok-next.next.clusters.items) (sym c.self.view_is) c.in_ok-next.ensures.anew)
      (subst (λ views. AreViewsIn views c.self.inside.clusters.items) (sym c.replace-before.ensures.value) c.self.invariant.seen));
}

pub add_new_ends-requires-clause-others : goal.add_new_ends-requires-clause-others
add_new_ends-requires-clause-others c =
    rw (c.deref-3.ensures.value)
    (stood_timed c.in_ok-next.next.anew c.self.inside.index.ends c.self.inside.clusters.items c.in_ok-next.next.clusters.items
    (subst (λ (f : Forest). StandBut c.in_ok-next.next.anew f.clusters c.in_ok-next.next.clusters.items) (sym c.self.view_is) c.in_ok-next.ensures.anew) c.self.invariant.timed)

pub invariant_of-self-2 : goal.invariant_of-self-2
invariant_of-self-2 c =
    let is : c.in_ok-next.next.clusters.items ≡ clusters_after c.args.now c.args.reports.now.entries c.args.config.now.clusters c.self.inside.clusters.items =
    c.in_ok-next.ensures.clusters ∙ (ap (λ (es : List ClusterEntry). clusters_after c.args.now c.args.reports.now.entries es c.args.self.now.clusters) (c.as_blocks-entries.ensures.same ∙ ap (λ (x : Config). x.clusters) c.get.ensures) ∙
    ap (λ (f : Forest). clusters_after c.args.now c.args.reports.now.entries c.args.config.now.clusters f.clusters) (sym c.self.view_is)) in
    record {
      few = omega (arith, c.requires.lawful.few, ap length is, length-map c.args.config.now.clusters (λ (e : ClusterEntry). cluster_after c.args.now c.args.reports.now.entries e (cluster_named e.name c.self.inside.clusters.items)));
      indexed = indexed_after c.args.now c.args.reports.now.entries c.args.config.now.clusters c.self.inside.index.users c.follow_users.new.users c.self.inside.clusters.items c.in_ok-next.next.clusters.items c.requires.lawful.clusters c.requires.lawful.rising c.self.invariant.indexed is c.in_ok-follow_users.ensures;
      timed = subst (λ (cs : List Cluster). AreTimed c.add_new_ends.new.ends cs) c.deref-3.ensures.value c.in_ok-add_new_ends.ensures;
      seen = views_in c.in_ok-next.next.clusters.items c.in_ok-seen.seen (c.in_ok-seen.ensures ∙ (c.in_ok-views.ensures ∙ ap views_of c.deref-2.ensures.value));
    }

pub returns-clause-pickable : goal.returns-clause-pickable
returns-clause-pickable c =
    let is : c.in_ok-next.next.clusters.items ≡ clusters_after c.args.now c.args.reports.now.entries c.args.config.now.clusters c.self.inside.clusters.items =
    c.in_ok-next.ensures.clusters ∙ (ap (λ (es : List ClusterEntry). clusters_after c.args.now c.args.reports.now.entries es c.args.self.now.clusters) (c.as_blocks-entries.ensures.same ∙ ap (λ (x : Config). x.clusters) c.get.ensures) ∙
    ap (λ (f : Forest). clusters_after c.args.now c.args.reports.now.entries c.args.config.now.clusters f.clusters) (sym c.self.view_is)) in
    let indexed : AreIndexed c.follow_users.new.users c.in_ok-next.next.clusters.items =
    indexed_after c.args.now c.args.reports.now.entries c.args.config.now.clusters c.self.inside.index.users c.follow_users.new.users c.self.inside.clusters.items c.in_ok-next.next.clusters.items c.requires.lawful.clusters c.requires.lawful.rising c.self.invariant.indexed is c.in_ok-follow_users.ensures in
    rw (c.in_ok-views.ensures, c.deref-2.ensures.value)
    (views_pickable c.follow_users.new.users c.args.now c.args.reports.now.entries c.in_ok-next.next.clusters.items c.self.inside.clusters.items indexed
    (updated_with c.args.now c.args.reports.now.entries c.args.config.now.clusters c.self.inside.clusters.items c.in_ok-next.next.clusters.items is))

pub returns-clause-updated : goal.returns-clause-updated
returns-clause-updated c = (
  c.args.self.now.clusters,
  updated_with c.args.now c.args.reports.now.entries c.args.config.now.clusters c.args.self.now.clusters c.in_ok-next.next.clusters.items
      (c.in_ok-next.ensures.clusters ∙ ap (λ (es : List ClusterEntry). clusters_after c.args.now c.args.reports.now.entries es c.args.self.now.clusters) (c.as_blocks-entries.ensures.same ∙ ap (λ (x : Config). x.clusters) c.get.ensures)),
)
