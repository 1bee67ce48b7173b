use Rattle.std.proofs.Common.{◌≡◌, map, take}
use Rattle.xds_config.specs.PathLengths.{length_test}
use Rattle.xds_config.proofs.ordered_routes.length_tests.Given as goal

abbrev pub invariant-loop-route : goal.invariant-loop-route
invariant-loop-route l = l.tests ≡ map (λ route. length_test route.path) (take l.route-index l.routes)
