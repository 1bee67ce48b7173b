use Rattle.watch_timers.proofs.RunLemmas.{run_as_started}
use Rattle.watch_timers.proofs.timer_laws.timers_run_as_started.Goals as goal

pub returns : goal.returns
returns c = run_as_started
