use Rattle.std.proofs.Common.{take}
use Rattle.config_assembly.specs.Reach.{aggregates}
use Rattle.config_assembly.specs.Tables.{AreLawfulRows, Holds, row_at}
use Rattle.config_assembly.specs.DepsViews.{seen}
use Rattle.config_assembly.proofs.table.Table.of.Given as goal

abbrev pub invariant-loop-cluster : goal.invariant-loop-cluster
invariant-loop-cluster g l = Holds (aggregates (seen l.sight)) (take l.cluster-index l.clusters) (row_at l.table) × AreLawfulRows l.table
