use Rattle.std.proofs.Common.{◌≡◌, drop, map}
use Rattle.config_assembly.specs.Orders.{name_cmp, put_in}
use Rattle.config_assembly.proofs.front.put_action.Given as goal

abbrev pub invariant-loop-weighted : goal.invariant-loop-weighted
invariant-loop-weighted l = put_in name_cmp l.names.keys (map (λ c. c.cluster) (drop l.weighted-index l.weighted-items)) ≡ put_in name_cmp l.fn.names.keys (map (λ c. c.cluster) l.weighted-items)
