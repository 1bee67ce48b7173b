use Rattle.std.proofs.Common.{◌≡◌, take, map}
use Rattle.config_assembly.specs.DepsViews.{seen}
use Rattle.dep_manager.specs.KeptAssemblies.{sources_of}
use Rattle.dep_manager.proofs.leaf_sources.keys_of_entries.Given as goal

abbrev pub invariant-loop-place : goal.invariant-loop-place
invariant-loop-place g l = l.keys ≡ map (λ entry. sources_of (seen l.sight) entry.state) (take l.place l.entries)
