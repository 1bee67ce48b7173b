use Rattle.std.proofs.Common.{◌≡◌, take, map}
use Rattle.std.specs.Prelude.{All, IfOk}
use Rattle.xds_config.specs.Endpoints.{IsLawfulEndpoints}
use Rattle.config_assembly.specs.WholeConfigs.{leaf_of}
use Rattle.config_assembly.specs.DepsViews.{seen}
use Rattle.config_assembly.proofs.assemble.all_leaves.Given as goal

abbrev pub invariant-loop-name : goal.invariant-loop-name
invariant-loop-name g l = (l.leaves ≡ map (leaf_of (seen l.sight)) (take l.name-index l.names)) × All (λ leaf. IfOk leaf.state IsLawfulEndpoints) l.leaves
