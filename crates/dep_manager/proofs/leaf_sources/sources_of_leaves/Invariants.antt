use Rattle.std.proofs.Common.{◌≡◌, take, map}
use Rattle.config_assembly.specs.DepsViews.{seen}
use Rattle.dep_manager.specs.KeptAssemblies.{source_of}
use Rattle.dep_manager.proofs.leaf_sources.sources_of_leaves.Given as goal

abbrev pub invariant-loop-leaf : goal.invariant-loop-leaf
invariant-loop-leaf g l = l.keys ≡ map (λ leaf. source_of (seen l.sight) leaf.name) (take l.leaf-index l.leaves)
