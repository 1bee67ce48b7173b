use Rattle.std.proofs.Common.{◌≡◌, ◌++◌, take, map}
use Rattle.check_routes.proofs.host_check.add_named.Given as goal

abbrev pub invariant-loop-weighted : goal.invariant-loop-weighted
invariant-loop-weighted l = l.names.items ≡ l.fn.names.items ++ map (λ c. c.cluster) (take l.weighted-index l.weighted-items)
