use Rattle.std.proofs.Common.{◌≡◌, ◌<◌, ◌^◌, sum, take}
use Rattle.xds_config.specs.RouteValues.{weights_of}
use Rattle.check_routes.proofs.route_check.can_be_chosen.Given as goal

abbrev pub invariant-loop-weighted : goal.invariant-loop-weighted
invariant-loop-weighted l = record {
  fits : l.sum < 2 ^ 32;
  is : l.sum ≡ sum (weights_of (take l.weighted-index l.clusters));
}
