use Rattle.std.proofs.Common.{◌≡◌, ◌≤◌, ◌+◌, ◌++◌, length, map}
use Rattle.std.specs.Vec.{vec_capacity}
use Rattle.watch_timers.specs.StartOrder.{IsOrderOf, first_due, after_due}
use Rattle.watch_timers.proofs.timers.take_due.Given as goal

abbrev pub invariant-loop-started : goal.invariant-loop-started
invariant-loop-started l = record {
  room : length l.keys.items + length (first_due l.now l.order.keys) ≤ vec_capacity l.keys;
  same : IsOrderOf l.order.keys l.starts.entries;
  keys : l.keys.items ++ map (λ started. started.key) (first_due l.now l.order.keys) ≡ l.fn.keys.items ++ map (λ started. started.key) (first_due l.now l.fn.order.keys);
  left : after_due l.now l.order.keys ≡ after_due l.now l.fn.order.keys;
}

abbrev pub decreases-loop-started : goal.decreases-loop-started
decreases-loop-started l = length l.order.keys
