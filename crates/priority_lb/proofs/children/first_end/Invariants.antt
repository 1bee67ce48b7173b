use Rattle.std.proofs.Common.{◌≡◌, ◌≤◌, min, drop}
use Rattle.priority_lb.specs.RunningTimers.{first_end, never}
use Rattle.priority_lb.proofs.children.first_end.Given as goal

abbrev pub invariant-loop-child : goal.invariant-loop-child
invariant-loop-child l = record {
  fits : l.end ≤ never;
  is : min l.end (first_end (drop l.child-index l.children)) ≡ first_end l.children;
}
