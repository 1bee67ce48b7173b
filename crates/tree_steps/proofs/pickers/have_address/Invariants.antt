use Rattle.std.proofs.Common.{◌≡◌, map, drop}
use Rattle.std.specs.List.{list_any}
use Rattle.tree_steps.specs.TreePickers.{has_address}
use Rattle.tree_steps.proofs.pickers.have_address.Given as goal

abbrev pub invariant-loop-locality : goal.invariant-loop-locality
invariant-loop-locality l = list_any has_address (map (λ m. m.now) (drop l.locality-index l.localities)) ≡ list_any has_address (map (λ m. m.now) l.localities)
