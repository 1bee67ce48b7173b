use Rattle.aggregate_expand.proofs.LawLemmas.{leaves_rest_on_chains}
use Rattle.aggregate_expand.proofs.leaf_laws.leaves_rest_on_chains.Goals as goal

pub returns : goal.returns
returns c = leaves_rest_on_chains
