use Rattle.std.proofs.Common.{subst}
use Rattle.xds_config.specs.SearchedLists.{AreByName}
use Rattle.xds_config.proofs.SearchLemmas.{renewed_by_name}
use Rattle.xds_config.proofs.ordered_clusters.Clusters.renewed.Goals as goal

pub invariant_of-result : goal.invariant_of-result
invariant_of-result c = renewed_by_name c.args.items c.args.self.now c.requires (subst AreByName c.self.view_is c.self.invariant)
