use Rattle.tree_timers.specs.declared.timer_ends.TimerEnd.{TimerEnd}
use Rattle.tree_timers.specs.EndsKept.{HasEnd}
use Rattle.cluster_tree.specs.ClusterTimers.{IsTimed}
use Rattle.cluster_tree.proofs.ClusterLemmas.{HoldAt}
use Rattle.cluster_tree.proofs.cluster_timers.add_new_ends.Given as goal

abbrev pub invariant-loop-place : goal.invariant-loop-place
invariant-loop-place l = record {
  kept : (end : TimerEnd) → HasEnd l.initial.ends end → HasEnd l.ends end;
  timed : HoldAt (λ place c. IsTimed l.ends place c) l.places l.place-index l.clusters;
}
