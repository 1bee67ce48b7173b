use Rattle.std.proofs.Common.{◌≡◌, List, length, sym, ap, ◌∙◌, subst, arith}
use Rattle.cluster_tree.specs.declared.cluster_trees.Cluster.{Cluster}
use Rattle.tree_steps.specs.Users.{UserList}
use Rattle.cluster_tree.specs.StandingTrees.{Forest, clusters_after, entries_of, forest_after, views_of}
use Rattle.cluster_tree.specs.ClusterTimers.{AreLeft}
use Rattle.cluster_tree.specs.PutEntries.{ChangesBut}
use Rattle.cluster_tree.specs.ClusterUsers.{AreIndexed, StandBut}
use Rattle.cluster_tree.proofs.ForestLemmas.{indexed_stepped, updated_with, views_pickable}
use Rattle.cluster_tree.proofs.StepLemmas.{all_took, are_stepped}
use Rattle.cluster_tree.proofs.ViewLemmas.{stay_in_place, views_in}
use Rattle.cluster_tree.proofs.trees.Trees.step_in_place.Goals as goal

pub due_places-requires-clause-few : goal.due_places-requires-clause-few
due_places-requires-clause-few c = omega (arith, c.deref.ensures.len, c.clusters.invariant.few)

pub views_after-requires : goal.views_after-requires
views_after-requires c = record {
  stay = rw (c.deref-2.ensures.value)
      (stay_in_place c.step_clusters.new.stepped.changed c.clusters.inside.seen c.clusters.inside.clusters.items c.step_clusters.new.stepped.clusters.items c.in_ok-step_clusters.ensures.clusters.count
      c.in_ok-step_clusters.ensures.changed c.clusters.invariant.seen);
}

pub invariant_of-drop : goal.invariant_of-drop
invariant_of-drop c = record {
  few = omega (arith, c.clusters.invariant.few, c.in_ok-step_clusters.ensures.clusters.count);
  indexed = subst (λ (users : UserList). AreIndexed users c.step_clusters.new.stepped.clusters.items) (sym c.due_places.ensures.users) (indexed_stepped c.clusters.inside.index.users c.args.now c.args.reports.now.entries c.clusters.inside.clusters.items c.step_clusters.new.stepped.clusters.items c.clusters.invariant.indexed
      (are_stepped c.args.now c.args.reports.now.entries c.in_ok-due.due c.clusters.inside.clusters.items c.step_clusters.new.stepped.clusters.items c.in_ok-step_clusters.ensures.clusters));
  timed = c.in_ok-step_clusters.ensures.timed;
  seen = views_in c.step_clusters.new.stepped.clusters.items c.in_ok-share.field-0 (c.in_ok-share.ensures ∙ (c.in_ok-views.ensures ∙ ap views_of c.deref-2.ensures.value));
}

pub returns-clause-step : goal.returns-clause-step
returns-clause-step c =
    let forest : Forest = record { now = c.clusters.inside.time; clusters = c.clusters.inside.clusters.items } in
    let was : forest ≡ c.args.self.now = c.clusters.view_is ∙ c.replace-2.ensures.value in
    let new : List Cluster = c.step_clusters.new.stepped.clusters.items in
    let is : new ≡ clusters_after c.args.now c.args.reports.now.entries (entries_of forest.clusters) forest.clusters =
    all_took c.clusters.inside.index.users c.args.put.now c.args.changed.now c.args.now c.args.reports.now.entries c.in_ok-due.due forest new c.clusters.invariant.indexed
    (subst (λ (f : Forest). ChangesBut c.args.put.now c.args.changed.now c.args.reports.now.entries f) (sym was) c.requires) c.in_ok-due.ensures.put
    (subst (λ (cs : List Cluster). AreLeft forest.now c.args.now c.clusters.inside.index.users c.args.changed.now c.in_ok-due.due cs) c.deref.ensures.value c.in_ok-due.ensures.left) c.in_ok-step_clusters.ensures.clusters in
    let make : List Cluster → Forest = λ cs. record { now = c.args.now; clusters = cs } in
    subst (λ (f : Forest). make new ≡ forest_after c.args.now c.args.reports.now.entries (entries_of f.clusters) f) was (ap make is)

pub returns-clause-pickable : goal.returns-clause-pickable
returns-clause-pickable c =
    let forest : Forest = record { now = c.clusters.inside.time; clusters = c.clusters.inside.clusters.items } in
    let was : forest ≡ c.args.self.now = c.clusters.view_is ∙ c.replace-2.ensures.value in
    let new : List Cluster = c.step_clusters.new.stepped.clusters.items in
    let is : new ≡ clusters_after c.args.now c.args.reports.now.entries (entries_of forest.clusters) forest.clusters =
    all_took c.clusters.inside.index.users c.args.put.now c.args.changed.now c.args.now c.args.reports.now.entries c.in_ok-due.due forest new c.clusters.invariant.indexed
    (subst (λ (f : Forest). ChangesBut c.args.put.now c.args.changed.now c.args.reports.now.entries f) (sym was) c.requires) c.in_ok-due.ensures.put
    (subst (λ (cs : List Cluster). AreLeft forest.now c.args.now c.clusters.inside.index.users c.args.changed.now c.in_ok-due.due cs) c.deref.ensures.value c.in_ok-due.ensures.left) c.in_ok-step_clusters.ensures.clusters in
    rw (c.in_ok-views.ensures, c.deref-2.ensures.value)
    (views_pickable c.clusters.inside.index.users c.args.now c.args.reports.now.entries new forest.clusters
    (indexed_stepped c.clusters.inside.index.users c.args.now c.args.reports.now.entries c.clusters.inside.clusters.items c.step_clusters.new.stepped.clusters.items c.clusters.invariant.indexed
    (are_stepped c.args.now c.args.reports.now.entries c.in_ok-due.due c.clusters.inside.clusters.items c.step_clusters.new.stepped.clusters.items c.in_ok-step_clusters.ensures.clusters))
    (updated_with c.args.now c.args.reports.now.entries (entries_of forest.clusters) forest.clusters new is))

pub returns-clause-updated : goal.returns-clause-updated
returns-clause-updated c =
    let forest : Forest = record { now = c.clusters.inside.time; clusters = c.clusters.inside.clusters.items } in
    let was : forest ≡ c.args.self.now = c.clusters.view_is ∙ c.replace-2.ensures.value in
    let new : List Cluster = c.step_clusters.new.stepped.clusters.items in
    let is : new ≡ clusters_after c.args.now c.args.reports.now.entries (entries_of forest.clusters) forest.clusters =
    all_took c.clusters.inside.index.users c.args.put.now c.args.changed.now c.args.now c.args.reports.now.entries c.in_ok-due.due forest new c.clusters.invariant.indexed
    (subst (λ (f : Forest). ChangesBut c.args.put.now c.args.changed.now c.args.reports.now.entries f) (sym was) c.requires) c.in_ok-due.ensures.put
    (subst (λ (cs : List Cluster). AreLeft forest.now c.args.now c.clusters.inside.index.users c.args.changed.now c.in_ok-due.due cs) c.deref.ensures.value c.in_ok-due.ensures.left) c.in_ok-step_clusters.ensures.clusters in
    (forest.clusters, updated_with c.args.now c.args.reports.now.entries (entries_of forest.clusters) forest.clusters new is)

pub returns-clause-anew : goal.returns-clause-anew
returns-clause-anew c =
    let was = c.clusters.view_is ∙ c.replace-2.ensures.value in
    subst (λ (f : Forest). StandBut c.step_clusters.new.stepped.anew f.clusters c.step_clusters.new.stepped.clusters.items) was c.in_ok-step_clusters.ensures.anew

pub returns-clause-put : goal.returns-clause-put
returns-clause-put c place lt on =
    let was = ap (λ (f : Forest). length f.clusters) (c.clusters.view_is ∙ c.replace-2.ensures.value) in
    let long = c.in_ok-step_clusters.ensures.anew.count in
    c.in_ok-step_clusters.ensures.due place (omega (arith, lt, was, long, c.in_ok-step_clusters.ensures.clusters.count)) (c.in_ok-due.ensures.put place on)
