use Rattle.aggregate_expand.proofs.AnswerLemmas.{leaves_found, leaves_deep}
use Rattle.aggregate_expand.proofs.PathLemmas.{leaves_by_paths}
use Rattle.aggregate_expand.proofs.ChainLemmas.{has_chain, no_chain}
use Rattle.aggregate_expand.proofs.VisitLemmas.{counted}
use Rattle.aggregate_expand.proofs.expand.leaves.Goals as goal

pub returns-in-Ok-clause-ok : goal.returns-in-Ok-clause-ok
returns-in-Ok-clause-ok g c = leaves_found 16 _ _ _ _ _ c.in-Ok.ensures.free c.new-found.ensures c.in-Ok.ensures.found c.into_names.ensures

pub returns-in-Ok-clause-led : goal.returns-in-Ok-clause-led
returns-in-Ok-clause-led g c = leaves_by_paths _ 16 _ _ _ _ c.in-Ok.ensures.free c.new-found.ensures c.in-Ok.ensures.found c.into_names.ensures

pub returns-in-Ok-clause-short : goal.returns-in-Ok-clause-short
returns-in-Ok-clause-short g c = no_chain _ 16 _ c.in-Ok.ensures.free

pub returns-in-Ok-clause-cost : goal.returns-in-Ok-clause-cost
returns-in-Ok-clause-cost g c = counted _ _ _ _ _ _ c.new-visits.ensures c.walk.ensures.differ c.walk.ensures.adds c.walk.ensures.cost

pub returns-clause-depth : goal.returns-clause-depth
returns-clause-depth g c = λ deep. leaves_deep 16 _ _ (c.in-Err.ensures.depth (cc))

pub returns-clause-long : goal.returns-clause-long
returns-clause-long g c = λ deep. has_chain _ 16 _ (c.in-Err.ensures.depth (cc))

pub returns-clause-cost : goal.returns-clause-cost
returns-clause-cost g c = counted _ _ _ _ _ _ c.new-visits.ensures c.walk.ensures.differ c.walk.ensures.adds c.walk.ensures.cost
