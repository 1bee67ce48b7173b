use Rattle.std.proofs.Common.{ap, ◌∙◌}
use Rattle.check_steps.specs.TableSteps.{each}
use Rattle.check_clusters.specs.Assignments.{drop_rule_of, drops_in}
use Rattle.check_steps.proofs.EachLemmas.{each_none}
use Rattle.check_clusters.proofs.assignment_check.drops.Goals as goal

pub returns-in-None : goal.returns-in-None
returns-in-None c = ap (λ p. each drop_rule_of (drops_in p)) c.in-None.is ∙ each_none drop_rule_of c.new.result c.new.ensures
