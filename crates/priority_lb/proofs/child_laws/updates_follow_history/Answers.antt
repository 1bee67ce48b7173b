use Rattle.priority_lb.proofs.HistoryLemmas.{one_step}
use Rattle.priority_lb.proofs.ChildLemmas.{many_steps, child_by_child, same_names, place_by_place}
use Rattle.priority_lb.proofs.child_laws.updates_follow_history.Goals as goal

pub returns-clause-one_step : goal.returns-clause-one_step
returns-clause-one_step c = one_step

pub returns-clause-many_steps : goal.returns-clause-many_steps
returns-clause-many_steps c = many_steps

pub returns-clause-child_by_child : goal.returns-clause-child_by_child
returns-clause-child_by_child c = child_by_child

pub returns-clause-same_names : goal.returns-clause-same_names
returns-clause-same_names c = same_names

pub returns-clause-place_by_place : goal.returns-clause-place_by_place
returns-clause-place_by_place c = place_by_place
