use Rattle.resource_check.proofs.GainLemmas.{check_gains, check_tells}
use Rattle.resource_check.proofs.checks.check_or_halt.Goals as goal

pub returns-clause-gains : goal.returns-clause-gains
returns-clause-gains g c = check_gains c.args.kind c.args.any.now c.args.asked.now c.check_in_turn-answer.new.asked _ _ c.check_in_turn-answer.result c.check_in_turn-answer.ensures.asked (c.check_in_turn-answer.ensures.value _ c.agree.ensures)

pub returns-clause-told : goal.returns-clause-told
returns-clause-told g c = check_tells c.args.kind c.args.any.now c.args.asked.now c.check_in_turn-answer.new.asked _ _ c.check_in_turn-answer.result c.check_in_turn-answer.ensures.asked (c.check_in_turn-answer.ensures.value _ c.agree.ensures)

pub returns-clause-asked : goal.returns-clause-asked
returns-clause-asked g c = c.check_in_turn-answer.ensures.asked.asks
