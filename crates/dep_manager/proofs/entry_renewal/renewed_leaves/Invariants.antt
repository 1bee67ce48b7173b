use Rattle.std.proofs.Common.{◌≡◌, ◌++◌, drop}
use Rattle.dep_manager.specs.RenewedConfigs.{renewed_leaves}
use Rattle.dep_manager.proofs.entry_renewal.renewed_leaves.Given as goal

abbrev pub invariant-loop-leaf : goal.invariant-loop-leaf
invariant-loop-leaf l = record {
  list : l.list ++ renewed_leaves l.fn.news (drop l.leaf-index l.leaves) l.left ≡ renewed_leaves l.fn.news l.leaves l.sources;
  same : l.news ≡ l.fn.news;
}
