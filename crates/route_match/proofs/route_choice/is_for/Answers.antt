use Rattle.std.proofs.Common.{sym, ◌∙◌}
use Rattle.route_match.proofs.RouteLemmas.{ruled_out_route}
use Rattle.route_match.proofs.route_choice.is_for.Goals as goal

pub returns-then-not-is_met : goal.returns-then-not-is_met
returns-then-not-is_met c = sym (ruled_out_route c.args.call.now c.args.route.now c.args.test c.args.path.now c.requires.test c.requires.own (sym c.is_met.ensures ∙ c.if-not-is_met.true))
