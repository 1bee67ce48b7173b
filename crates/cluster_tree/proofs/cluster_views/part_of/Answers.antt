use Rattle.std.proofs.Common.{◌*◌, ◌∙◌}
use Rattle.cluster_tree.proofs.ViewLemmas.{first_behind}
use Rattle.cluster_tree.proofs.cluster_views.part_of.Goals as goal

pub returns : goal.returns
returns c = c.split_at.ensures.front ∙ first_behind c.args.clusters.now (32 * c.args.number) c.min.result c.min.ensures
