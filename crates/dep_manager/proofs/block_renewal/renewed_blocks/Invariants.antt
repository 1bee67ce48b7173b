use Rattle.std.proofs.Common.{◌≡◌, ◌*◌, drop, take}
use Rattle.dep_manager.specs.RenewedConfigs.{renewed_entries}
use Rattle.dep_manager.specs.ToldPlaces.{AreToldFrom}
use Rattle.dep_manager.proofs.block_renewal.renewed_blocks.Given as goal

abbrev pub invariant-loop-number : goal.invariant-loop-number
invariant-loop-number l = record {
  blocks : l.blocks ≡ renewed_entries l.fn.news (take (32 * l.number) l.clusters) (take (32 * l.number) l.sources);
  told : AreToldFrom l.fn.news l.left (32 * l.number) (drop (32 * l.number) l.sources);
  same : l.news ≡ l.fn.news;
}
