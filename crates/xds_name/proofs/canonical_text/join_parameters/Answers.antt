use Rattle.xds_name.proofs.JoinLemmas.{joined_by}
use Rattle.xds_name.proofs.canonical_text.join_parameters.Goals as goal

pub returns : goal.returns
returns c = rw (← joined_by (λ p. p.now) 38 c.args.parameters.now) c.join.ensures.ok
