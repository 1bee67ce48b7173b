use Rattle.std.proofs.Common.{◌≡◌, drop}
use Rattle.std.specs.List.{flat_map}
use Rattle.config_assembly.specs.Orders.{name_cmp, put_in, sorted}
use Rattle.config_assembly.specs.Reach.{aggregates, children_among}
use Rattle.config_assembly.specs.DepsViews.{seen}
use Rattle.config_assembly.proofs.reach.children_of_all.Given as goal

abbrev pub invariant-loop-cluster : goal.invariant-loop-cluster
invariant-loop-cluster g l = put_in name_cmp l.names.keys (flat_map (children_among (aggregates (seen l.sight))) (drop l.cluster-index l.clusters)) ≡ sorted name_cmp (flat_map (children_among (aggregates (seen l.sight))) l.clusters)
