use Rattle.std.proofs.Common.{◌≡◌, drop, map}
use Rattle.xc_base.specs.declared.names.Kind.TheVariants.{Endpoint}
use Rattle.xc_keys.specs.Keys.{key_cmp}
use Rattle.config_assembly.specs.Orders.{put_in}
use Rattle.config_assembly.specs.Reach.{endpoint_names}
use Rattle.config_assembly.specs.DepsViews.{seen}
use Rattle.config_assembly.proofs.reach.put_endpoints.Given as goal

abbrev pub invariant-loop-cluster : goal.invariant-loop-cluster
invariant-loop-cluster g l = put_in key_cmp l.keys.keys (map ((seen l.sight).key Endpoint) (endpoint_names (seen l.sight) (drop l.cluster-index l.clusters))) ≡ put_in key_cmp l.fn.keys.keys (map ((seen l.sight).key Endpoint) (endpoint_names (seen l.sight) l.clusters))
