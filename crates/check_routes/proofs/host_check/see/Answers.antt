use Rattle.check_steps.specs.Sets.{has}
use Rattle.check_routes.proofs.HostLemmas.{gained}
use Rattle.check_routes.proofs.host_check.see.Goals as goal

pub returns-then-branch-clause-seen : goal.returns-then-branch-clause-seen
returns-then-branch-clause-seen c = λ other. gained c.args.name other (has c.args.seen.now other) (has c.insert.new.self other) (c.in_ok-insert.ensures.updates.0 other)
