use Rattle.dep_manager.proofs.DecideLemmas.{fates_of_reached_keys_decide}
use Rattle.dep_manager.proofs.deps_laws.fates_of_reached_keys_decide.Goals as goal

pub returns : goal.returns
returns c = λ r references fate agree. fates_of_reached_keys_decide r references fate agree
