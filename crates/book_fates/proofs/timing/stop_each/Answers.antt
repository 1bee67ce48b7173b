use Rattle.book_fates.proofs.TimedLemmas.{stopped_next}
use Rattle.book_fates.proofs.timing.stop_each.Goals as goal

pub loop-key-preserved : goal.loop-key-preserved
loop-key-preserved c =
    stopped_next c.args.timers.now c.loop-key.timers c.cancel.new.self c.args.keys.now c.loop-key.key-index c.key-item.result c.loop-key-test.true c.key-item.is c.cancel.ensures c.loop-key.invariant
