use Rattle.std.proofs.Common.{◌≡◌, ◌<◌, ℕ, Bool, Option, List, length, get_or, sym, ap, ◌∙◌, subst}
use Rattle.std.specs.Prelude.{option_map, not, ◌==◌, IfOk, IfSome}
use Rattle.std.proofs.lemmas.Option.{get_or_from_slice_get, slice_get_within}
use Rattle.xds_config.specs.declared.config.ClusterEntry.{ClusterEntry}
use Rattle.xds_config.specs.Configs.{AreLawfulLeaves}
use Rattle.cluster_tree.specs.declared.cluster_trees.Cluster.{Cluster}
use Rattle.cluster_tree.specs.StandingTrees.{Forest, cluster_after, cluster_named}
use Rattle.cluster_tree.specs.ViewChanges.{seen_of, IsChangeMark}
use Rattle.cluster_tree.specs.ClusterUsers.{IsReached, OthersStay, StaysUnmarked}
use Rattle.cluster_tree.proofs.ForestLemmas.{clusters_more}
use Rattle.cluster_tree.proofs.ChangeLemmas.{marks_more}
use Rattle.cluster_tree.proofs.MergeLemmas.{AreBefore, long_so_far, neither, passed_here, passed_more, stand_more, stays_here, unmoved}
use Rattle.cluster_tree.proofs.trees.Trees.clusters_after.Goals as goal

pub find_cluster-before-requires-clause-passed : goal.find_cluster-before-requires-clause-passed
find_cluster-before-requires-clause-passed c =
    let entry : ClusterEntry = c.at-entry.result.now in
    let is : entry ≡ get_or c.args.entries.now c.loop-place.place entry = sym (get_or_from_slice_get c.args.entries.now c.loop-place.place entry entry c.at-entry.ensures) in
    subst (λ (e : ClusterEntry). AreBefore c.as_slice-old.result.now c.loop-place.from e.name) (sym c.get.ensures)
    (passed_here c.as_slice-old.result.now c.loop-place.from c.args.entries.now c.loop-place.place entry (slice_get_within c.args.entries.now c.loop-place.place entry c.at-entry.ensures) is c.loop-place.invariant.passed)

pub next_cluster-requires-clause-lawful : goal.next_cluster-requires-clause-lawful
next_cluster-requires-clause-lawful c =
    let entry : ClusterEntry = c.at-entry.result.now in
    subst (λ (e : ClusterEntry). IfOk e.state AreLawfulLeaves) (get_or_from_slice_get c.args.entries.now c.loop-place.place entry entry c.at-entry.ensures)
    (c.requires.lawful c.loop-place.place entry (slice_get_within c.args.entries.now c.loop-place.place entry c.at-entry.ensures))

pub next_cluster-requires-clause-unmarked : goal.next_cluster-requires-clause-unmarked
next_cluster-requires-clause-unmarked c =
    let kept : OthersStay c.self.inside.time c.args.now c.args.reports.now.entries c.args.readers.now c.self.inside.clusters.items =
    subst (λ (f : Forest). OthersStay f.now c.args.now c.args.reports.now.entries c.args.readers.now f.clusters) (sym c.self.view_is) c.requires.others in
    let others : OthersStay c.self.inside.time c.args.now c.args.reports.now.entries c.args.readers.now c.as_slice-old.result.now =
    subst (λ (cs : List Cluster). OthersStay c.self.inside.time c.args.now c.args.reports.now.entries c.args.readers.now cs) (sym c.as_slice-old.ensures.value) kept in
    subst (λ (b : Bool). IfSome (option_map (λ r. r.now) c.find_cluster-before.result.cluster) (λ x. StaysUnmarked c.self.inside.time c.args.now c.args.reports.now.entries b x)) (sym c.is_marked.ensures)
    (stays_here c.self.inside.time c.args.now c.args.reports.now.entries c.args.readers.now c.as_slice-old.result.now c.find_cluster-before.result.place (option_map (λ r. r.now) c.find_cluster-before.result.cluster) others
    c.find_cluster-before.ensures.here)

pub loop-place-preserved : goal.loop-place-preserved
loop-place-preserved c =
    let entry : ClusterEntry = c.at-entry.result.now in
    let lt : c.loop-place.place < length c.args.entries.now = slice_get_within c.args.entries.now c.loop-place.place entry c.at-entry.ensures in
    let is : entry ≡ get_or c.args.entries.now c.loop-place.place entry = sym (get_or_from_slice_get c.args.entries.now c.loop-place.place entry entry c.at-entry.ensures) in
    let next : Cluster = c.in_ok-cluster.cluster.cluster in
    let old : List Cluster = c.as_slice-old.result.now in
    let reached : IsReached old entry.name c.find_cluster-before.result.place = subst (λ (e : ClusterEntry). IsReached old e.name c.find_cluster-before.result.place) c.get.ensures c.find_cluster-before.ensures.reached in
    let here : option_map (λ r. r.now) c.find_cluster-before.result.cluster ≡ cluster_named entry.name old = c.find_cluster-before.ensures.named ∙ ap (λ (e : ClusterEntry). cluster_named e.name old) c.get.ensures in
    let made : next ≡ cluster_after c.args.now c.args.reports.now.entries entry (cluster_named entry.name old) =
    c.in_ok-cluster.ensures.cluster ∙ ap (λ (o : Option Cluster). cluster_after c.args.now c.args.reports.now.entries entry o) here in
    let named : option_map (λ r. r.now) c.find_cluster-before.result.cluster ≡ cluster_named next.entry.name old =
    here ∙ ap (λ (e : ClusterEntry). cluster_named e.name old) (sym (ap (λ (k : Cluster). k.entry) made)) in
    record {
      within = reached.within;
      passed = passed_more old c.find_cluster-before.result.place c.args.entries.now c.loop-place.place entry lt is c.requires.rising reached;
      clusters = clusters_more c.args.now c.args.reports.now.entries old c.args.entries.now c.loop-place.place entry c.loop-place.next.clusters.items c.push.new.self.clusters.items next lt is
          c.loop-place.invariant.clusters c.in_ok-push.ensures.clusters made;
      marks = marks_more old c.loop-place.next.clusters.items c.push.new.self.clusters.items c.loop-place.next.changed c.push.new.self.changed next c.in_ok-cluster.cluster.changed c.loop-place.invariant.marks
          c.in_ok-push.ensures.clusters c.in_ok-push.ensures.changed (subst (λ (o : Option Cluster). IsChangeMark c.in_ok-cluster.cluster.changed (option_map seen_of o) (seen_of next)) named c.in_ok-cluster.ensures.changed);
      stand = stand_more old c.loop-place.next.clusters.items c.push.new.self.clusters.items c.loop-place.next.anew c.push.new.self.anew next _ c.loop-place.invariant.stand
          c.in_ok-push.ensures.clusters c.in_ok-push.ensures.anew (λ off.
          let both = neither c.in_ok-cluster.cluster.anew (not (c.find_cluster-before.result.place == c.loop-place.place)) off in
          let stood = subst (λ (o : Option Cluster). IfSome o (λ x. (c.find_cluster-before.result.place < length old) × (get_or old c.find_cluster-before.result.place x ≡ x))) (c.in_ok-cluster.ensures.anew both.0) c.find_cluster-before.ensures.here in
          let long = long_so_far c.args.now c.args.reports.now.entries c.args.entries.now old c.loop-place.next.clusters.items c.loop-place.place lt c.loop-place.invariant.clusters in
          let at : c.find_cluster-before.result.place ≡ length c.loop-place.next.clusters.items = unmoved c.find_cluster-before.result.place c.loop-place.place both.1 ∙ sym long in
          (subst (λ (n : ℕ). n < length old) at stood.0, sym stood.1 ∙ ap (λ (n : ℕ). get_or old n next) at));
    }
