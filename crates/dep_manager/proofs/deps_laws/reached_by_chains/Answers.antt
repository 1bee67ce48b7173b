use Rattle.dep_manager.proofs.ChainLemmas.{reached_by_chains}
use Rattle.dep_manager.proofs.deps_laws.reached_by_chains.Goals as goal

pub returns : goal.returns
returns c = λ r references key. reached_by_chains r references key
