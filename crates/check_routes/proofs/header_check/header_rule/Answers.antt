use Rattle.check_steps.proofs.AskingLemmas.{ends_so}
use Rattle.check_routes.proofs.header_check.header_rule.Goals as goal

pub returns-in_err-name-clause-asked : goal.returns-in_err-name-clause-asked
returns-in_err-name-clause-asked g c = ends_so c.in_ok-test.ensures.asked
