use Rattle.std.proofs.Common.{◌≡◌, drop}
use Rattle.check_clusters.specs.Assignments.{drop_rule_of}
use Rattle.check_steps.specs.TableSteps.{each}
use Rattle.check_steps.proofs.EachLemmas.{joined}
use Rattle.check_clusters.proofs.assignment_check.drop_rules.Given as goal

abbrev pub invariant-loop-raw : goal.invariant-loop-raw
invariant-loop-raw l = joined l.rules (each drop_rule_of (drop l.raw-index l.raws)) ≡ each drop_rule_of l.raws
