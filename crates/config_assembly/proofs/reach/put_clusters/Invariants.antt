use Rattle.std.proofs.Common.{◌≡◌, drop, map}
use Rattle.xc_base.specs.declared.names.Kind.TheVariants.{Cluster}
use Rattle.xc_keys.specs.Keys.{key_cmp}
use Rattle.config_assembly.specs.Orders.{put_in}
use Rattle.config_assembly.specs.DepsViews.{seen}
use Rattle.config_assembly.proofs.reach.put_clusters.Given as goal

abbrev pub invariant-loop-cluster : goal.invariant-loop-cluster
invariant-loop-cluster l = put_in key_cmp l.keys.keys (map ((seen l.sight).key Cluster) (drop l.cluster-index l.clusters)) ≡ put_in key_cmp l.fn.keys.keys (map ((seen l.sight).key Cluster) l.clusters)
