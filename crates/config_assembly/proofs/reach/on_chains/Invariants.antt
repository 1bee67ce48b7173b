use Rattle.std.proofs.Common.{◌≡◌, ◌-◌}
use Rattle.config_assembly.specs.Orders.{name_cmp, put_in, sorted}
use Rattle.config_assembly.specs.Reach.{aggregates, on_chains}
use Rattle.config_assembly.specs.DepsViews.{seen}
use Rattle.config_assembly.proofs.reach.on_chains.Given as goal

abbrev pub invariant-loop : goal.invariant-loop
invariant-loop g l = put_in name_cmp l.names.keys (on_chains (aggregates (seen l.sight)) (16 - l.counter) l.level) ≡ sorted name_cmp (on_chains (aggregates (seen l.sight)) 16 l.roots)
