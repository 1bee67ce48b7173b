use Rattle.tree_timers.proofs.EndLemmas.{none_due}
use Rattle.tree_timers.proofs.timer_ends.first_due.Goals as goal

pub returns-else-first-now-clause-none : goal.returns-else-first-now-clause-none
returns-else-first-now-clause-none c = λ end has due. none_due c.in_ok-first.first.now end c.args.now (c.in_ok-first.ensures.least end has) c.if-first-now.false due
