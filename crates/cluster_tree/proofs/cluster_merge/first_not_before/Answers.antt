use Rattle.std.proofs.Common.{◌<◌, length, rules, sym, subst, arith}
use Rattle.std.specs.Prelude.{IsTrue}
use Rattle.std.proofs.lemmas.Grind.{common_steps}
use Rattle.xds_config.specs.declared.config.ClusterEntry.{ClusterEntry}
use Rattle.xds_config.specs.Configs.{IsNameBefore}
use Rattle.cluster_tree.specs.declared.cluster_trees.Cluster.{Cluster}
use Rattle.cluster_tree.proofs.MergeLemmas.{before_more}
use Rattle.cluster_tree.proofs.cluster_merge.first_not_before.Goals as goal

pub loop-place-preserved : goal.loop-place-preserved
loop-place-preserved c =
    let x : Cluster = c.index-clusters-place.result in
    let lt : c.loop-place.place < length c.args.clusters.now = grind (arith, common_steps) in
    let yes : IsTrue c.is_before.result = search rules in
    record {
      within = omega (arith, lt);
      passed = before_more c.args.clusters.now c.loop-place.place x c.args.name.now lt c.index-clusters-place.is c.loop-place.invariant.passed
          (subst (λ (y : Cluster). IsNameBefore y.entry.name c.args.name.now) (sym c.index-clusters-place.is) (subst (λ (e : ClusterEntry). IsNameBefore e.name c.args.name.now) c.get.ensures (c.is_before.ensures.0 yes)));
    }
