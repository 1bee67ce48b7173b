use Rattle.std.proofs.Common.{◌∙◌, sym}
use Rattle.watch_timers.proofs.DueLemmas.{none_first}
use Rattle.watch_timers.proofs.timers.take_first_due.Goals as goal

pub returns-else-has_run_out-clause-none : goal.returns-else-has_run_out-clause-none
returns-else-has_run_out-clause-none c = none_first c.args.now c.args.order.now.keys c.in_ok-first.first.now c.in_ok-first.ensures.first (sym c.has_run_out.ensures ∙ c.if-has_run_out.false)
