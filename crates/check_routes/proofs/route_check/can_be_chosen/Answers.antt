use Rattle.std.proofs.Common.{arith}
use Rattle.check_routes.proofs.SplitLemmas.{all_weights, too_much}
use Rattle.check_routes.proofs.route_check.can_be_chosen.Goals as goal

pub returns-in-None : goal.returns-in-None
returns-in-None c = too_much c.args.clusters.now c.loop-weighted.weighted-index c.weighted-item.result c.loop-weighted.sum c.loop-weighted-test.true c.weighted-item.is c.loop-weighted.invariant.is (omega (arith, c.in-None.ensures))

pub returns : goal.returns
returns c = all_weights c.args.clusters.now c.loop-weighted.weighted-index c.loop-weighted.sum c.loop-weighted-test.false c.loop-weighted.invariant.is c.loop-weighted.invariant.fits
