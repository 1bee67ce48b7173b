use Rattle.std.proofs.Common.{◌≡◌, ◌≤◌, sum, take}
use Rattle.xds_config.specs.RouteValues.{weights_of}
use Rattle.route_match.proofs.route_choice.choice.Given as goal

abbrev pub invariant-loop-place : goal.invariant-loop-place
invariant-loop-place l = record {
  sum : l.sum ≡ sum (take l.place (weights_of l.clusters));
  below : l.sum ≤ l.target;
}
