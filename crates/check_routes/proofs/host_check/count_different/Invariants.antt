use Rattle.std.proofs.Common.{◌≡◌, ◌≤◌, ℕ, List, length, take, reverse}
use Rattle.check_steps.specs.Sets.{has}
use Rattle.check_routes.specs.RouteTable.{different, is_among}
use Rattle.check_routes.proofs.host_check.count_different.Given as goal

abbrev pub invariant-loop-name : goal.invariant-loop-name
invariant-loop-name l = record {
  seen : (name : List ℕ) → has l.seen name ≡ is_among name (reverse (take l.name-index l.names));
  count : l.count ≡ length (different (reverse (take l.name-index l.names)));
  few : l.count ≤ l.name-index;
}
