use Rattle.std.proofs.Common.{arith, min, ap, ◌∙◌}
use Rattle.priority_lb.proofs.EndLemmas.{end_begins, end_goes_on, end_of_all}
use Rattle.priority_lb.proofs.children.first_end.Goals as goal

pub loop-child-init : goal.loop-child-init
loop-child-init c = record { fits = omega arith; is = end_begins c.args.children.now }

pub loop-child-preserved : goal.loop-child-preserved
loop-child-preserved c = record {
  fits = omega (arith, c.loop-child.invariant.fits, c.min-end.ensures);
  is = end_goes_on c.loop-child.end c.min-end.result c.args.children.now c.loop-child.child-index _ c.loop-child-test.true (c.min-end.ensures ∙ ap (min c.loop-child.end) c.first_end.ensures) c.loop-child.invariant.is;
}

pub returns : goal.returns
returns c = end_of_all c.loop-child.end c.args.children.now c.loop-child.child-index c.loop-child.invariant.fits c.loop-child-test.false c.loop-child.invariant.is
