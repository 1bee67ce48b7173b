use Rattle.dep_manager.specs.RenewedConfigs.{renewed_leaf, renewed_leaves}
use Rattle.dep_manager.proofs.PairLemmas.{all_done}
use Rattle.dep_manager.proofs.entry_renewal.renewed_leaves.Goals as goal

pub returns-clause-list : goal.returns-clause-list
returns-clause-list c =
    all_done (renewed_leaf c.args.news.now) c.args.leaves.now c.loop-leaf.list (renewed_leaves c.args.news.now c.args.leaves.now c.args.sources.now) c.loop-leaf.leaf-index c.loop-leaf.left.now c.loop-leaf-test.false c.loop-leaf.invariant.list
