use Rattle.resource_check.proofs.FoundLemmas.{given_some}
use Rattle.resource_check.proofs.checks.given_name.Goals as goal

pub returns-in_ok-name-in-Some-clause-some : goal.returns-in_ok-name-in-Some-clause-some
returns-in_ok-name-in-Some-clause-some c = given_some c.in-Some.name c.as_str.result.now c.in_ok-name-in-Some.name c.is_empty.result c.is_empty.ensures c.if-not-is_empty.true c.as_str.ensures c.in_ok-name-in-Some.ensures
