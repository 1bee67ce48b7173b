use Rattle.resource_check.proofs.FoundLemmas.{halts_under}
use Rattle.resource_check.proofs.checks.under.Goals as goal

pub returns-in-Err-clause-answers : goal.returns-in-Err-clause-answers
returns-in-Err-clause-answers g c = λ step told. halts_under c.args.name c.in-Err.fault c.args.answer c.halt_under.result step c.in-Err.is c.halt_under.ensures told
