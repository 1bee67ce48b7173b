use Rattle.std.proofs.Common.{◌∙◌}
use Rattle.dep_manager.proofs.RootLemmas.{found_among}
use Rattle.dep_manager.proofs.kept_roots.has_cluster.Goals as goal

pub returns : goal.returns
returns c = c.is_some.ensures ∙ found_among c.args.clusters.now c.args.name.now c.find.result c.find.ensures.found c.find.ensures.none
