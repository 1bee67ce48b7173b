use Rattle.std.proofs.Common.{length}
use Rattle.cluster_tree.proofs.StepLemmas.{AreSteppedBut}
use Rattle.cluster_tree.proofs.cluster_steps.step_clusters.Given as goal

abbrev pub invariant-loop-place : goal.invariant-loop-place
invariant-loop-place l = AreSteppedBut l.now l.reports.entries l.initial.due l.due l.initial.stepped l.stepped

abbrev pub decreases-loop-place : goal.decreases-loop-place
decreases-loop-place l = length l.due.keys
