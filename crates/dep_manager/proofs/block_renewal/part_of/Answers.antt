use Rattle.std.proofs.Common.{◌*◌, ◌∙◌}
use Rattle.dep_manager.proofs.ToldLemmas.{first_behind}
use Rattle.dep_manager.proofs.block_renewal.part_of.Goals as goal

pub returns : goal.returns
returns c = c.split_at.ensures.front ∙ first_behind c.args.sources.now (32 * c.args.number) c.min.result c.min.ensures
