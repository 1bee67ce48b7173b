use Rattle.std.proofs.Common.{◌≡◌, length, arith}
use Rattle.std.proofs.lemmas.Grind.{common_steps}
use Rattle.config_compare.proofs.MarkedLemmas.{named_all}
use Rattle.config_compare.proofs.marked_clusters.have_same_names.Goals as goal

pub returns : goal.returns
returns c =
    let long : length c.args.clusters.now ≡ length c.args.others.now = grind (arith, common_steps) in
    λ yes. named_all c.args.marks.now c.args.clusters.now c.args.others.now long c.requires.unmarked (c.are_named_alike_at.ensures yes)
