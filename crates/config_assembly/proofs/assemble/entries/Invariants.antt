use Rattle.std.proofs.Common.{◌≡◌, take, map}
use Rattle.std.specs.Prelude.{All, IfOk}
use Rattle.xds_config.specs.Configs.{AreLawfulLeaves}
use Rattle.config_assembly.specs.WholeConfigs.{cluster_entry}
use Rattle.config_assembly.specs.DepsViews.{seen}
use Rattle.config_assembly.proofs.assemble.entries.Given as goal

abbrev pub invariant-loop-name : goal.invariant-loop-name
invariant-loop-name g l = (l.entries ≡ map (cluster_entry (seen l.sight)) (take l.name-index l.names)) × All (λ entry. IfOk entry.state AreLawfulLeaves) l.entries
