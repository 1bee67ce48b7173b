use Rattle.std.proofs.Common.{sym, ◌∙◌}
use Rattle.tree_steps.proofs.UserLemmas.{marks_more, marks_all}
use Rattle.tree_steps.proofs.users.marks_of.Goals as goal

pub loop-address-preserved : goal.loop-address-preserved
loop-address-preserved c = record {
  count = c.with_marks-marks.ensures.count ∙ c.loop-address.invariant.count;
  marked = marks_more c.args.users.now c.args.changed.now c.loop-address.address-index c.address-item.result c.loop-address.marks.items c.with_marks-marks.result.items c.loop-address-test.true c.address-item.is
      c.loop-address.invariant.marked c.with_marks-marks.ensures.kept (sym c.with_marks-marks.ensures.count) (rw (c.at.ensures) at c.with_marks-marks.ensures.marked);
}

pub returns-clause-marked : goal.returns-clause-marked
returns-clause-marked c = marks_all c.args.users.now c.args.changed.now c.loop-address.address-index c.loop-address.marks.items c.loop-address-test.false c.loop-address.invariant.marked
