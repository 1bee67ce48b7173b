use Rattle.std.proofs.Common.{◌≡◌, ◌+◌, drop, take}
use Rattle.dep_manager.specs.RenewedConfigs.{renewed_entries}
use Rattle.dep_manager.specs.ToldPlaces.{AreToldFrom}
use Rattle.dep_manager.proofs.block_renewal.renewed_entries.Given as goal

abbrev pub invariant-loop-at : goal.invariant-loop-at
invariant-loop-at l = record {
  entries : l.list ≡ renewed_entries l.fn.news (take l.at l.entries) (take l.at l.sources);
  told : AreToldFrom l.fn.news l.left (l.first + l.at) (drop l.at l.sources);
  same : l.news ≡ l.fn.news;
}
