use Rattle.std.proofs.Common.{take}
use Rattle.route_match.specs.Ranks.{IsBestOf}
use Rattle.route_match.proofs.host_choice.best_rank.Given as goal

abbrev pub invariant-loop-domain : goal.invariant-loop-domain
invariant-loop-domain l = IsBestOf (take l.domain-index l.domains) l.text l.host l.best
