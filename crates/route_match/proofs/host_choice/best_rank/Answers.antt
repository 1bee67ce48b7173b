use Rattle.std.proofs.Common.{take, sym, subst, ◌∙◌, ap, Option, ◌+◌}
use Rattle.route_match.specs.declared.domains.Rank.{Rank}
use Rattle.route_match.specs.Ranks.{IsBestOf, better}
use Rattle.route_match.proofs.HostLemmas.{domain_more}
use Rattle.route_match.proofs.host_choice.best_rank.Goals as goal

pub loop-domain-preserved : goal.loop-domain-preserved
loop-domain-preserved c =
    let is = c.better-best.ensures ∙ ap (better c.loop-domain.best) c.rank_of.ensures in
    subst (λ (b : Option Rank). IsBestOf (take (c.loop-domain.domain-index + 1) c.args.domains.now) c.args.text.now c.args.host b) (sym is)
    (domain_more c.args.domains.now c.args.text.now c.args.host c.loop-domain.domain-index c.loop-domain.best c.domain-item.result c.loop-domain-test.true c.domain-item.is c.loop-domain.invariant)
