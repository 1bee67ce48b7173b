use Rattle.std.proofs.Common.{◌≡◌, subst}
use Rattle.std.specs.Prelude.{IfOk}
use Rattle.cluster_tree.proofs.ViewLemmas.{block_stays}
use Rattle.cluster_tree.proofs.cluster_views.block_of.Goals as goal

pub returns-in-Some : goal.returns-in-Some
returns-in-Some c =
    subst (λ seen. IfOk c.share.result (λ block. block ≡ seen))
    (block_stays c.args.views.now c.in-Some.block.now c.args.number c.args.clusters.now c.in-Some.ensures.block c.in-Some.ensures.count (c.requires c.if-not-is_marked.true))
    c.share.ensures
