use Rattle.std.proofs.Common.{subst}
use Rattle.book_fates.specs.FateSteps.{Stepped, out_among}
use Rattle.book_fates.proofs.DueLemmas.{due_expires, moment_knows}
use Rattle.book_fates.proofs.timing.expire.Goals as goal

pub returns-clause-expired : goal.returns-clause-expired
returns-clause-expired c past ps are key = due_expires past ps c.args.timers.now c.due.new.self c.args.now c.in_ok-keys.keys are c.in_ok-keys.ensures.ok key

pub returns-clause-knows : goal.returns-clause-knows
returns-clause-knows c s came past ps time event are knows =
    moment_knows s came past ps c.args.now time c.args.timers.now c.due.new.self c.in_ok-keys.keys c.args.cache.now c.take_out.new.cache event are c.in_ok-keys.ensures.ok
    (subst (λ keys. Stepped c.args.cache.now c.take_out.new.cache (out_among keys)) c.as_slice.ensures c.take_out.ensures) knows
