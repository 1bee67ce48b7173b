use Rattle.std.proofs.Common.{[], ap, ◌∙◌}
use Rattle.std.specs.Prelude.{unwrap_or}
use Rattle.config_assembly.specs.Orders.{name_cmp, put_in}
use Rattle.config_assembly.specs.Reach.{aggregates, children_among, children_of}
use Rattle.config_assembly.specs.DepsViews.{seen}
use Rattle.config_assembly.proofs.OrderLemmas.{put_next}
use Rattle.config_assembly.proofs.reach.children_of_all.Goals as goal

pub loop-cluster-preserved : goal.loop-cluster-preserved
loop-cluster-preserved g c =
    put_next name_cmp (children_among (aggregates (seen c.args.sight))) c.args.clusters.now c.loop-cluster.cluster-index c.cluster-item.result c.loop-cluster.names.keys c.put_children.new.names.keys _ c.loop-cluster-test.true c.cluster-item.is
    (c.in_ok-put_children.ensures ∙ ap (λ k. put_in name_cmp c.loop-cluster.names.keys (unwrap_or (children_of k) [])) c.in_ok-fate.ensures.fate)
    c.loop-cluster.invariant
