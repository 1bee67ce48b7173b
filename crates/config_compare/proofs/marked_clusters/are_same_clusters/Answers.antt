use Rattle.std.proofs.Common.{◌≡◌, length, arith}
use Rattle.std.proofs.lemmas.Grind.{common_steps}
use Rattle.config_compare.proofs.MarkedLemmas.{agree_where_same, same_all}
use Rattle.config_compare.proofs.marked_clusters.are_same_clusters.Goals as goal

pub returns : goal.returns
returns c =
    let long : length c.args.clusters.now ≡ length c.args.others.now = grind (arith, common_steps) in (
      λ yes. same_all c.args.marks.now c.args.clusters.now c.args.others.now long c.requires.unmarked (c.agree_at.ensures.0 yes),
      λ same. c.agree_at.ensures.1 (agree_where_same c.args.marks.now c.args.clusters.now c.args.others.now same),
    )
