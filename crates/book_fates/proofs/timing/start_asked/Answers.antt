use Rattle.book_fates.specs.Timing.{asks_at}
use Rattle.book_fates.proofs.TimedLemmas.{start_next}
use Rattle.book_fates.proofs.timing.start_asked.Goals as goal

pub loop-key-preserved : goal.loop-key-preserved
loop-key-preserved c =
    start_next (λ key. asks_at c.args.sent.now key key.home) c.args.timers.now c.loop-key.timers c.start_if_asked.new.timers c.args.keys.now c.loop-key.key-index c.key-item.result c.args.now c.loop-key-test.true c.key-item.is
    c.in_ok-start_if_asked.ensures.asked c.in_ok-start_if_asked.ensures.others c.loop-key.invariant
