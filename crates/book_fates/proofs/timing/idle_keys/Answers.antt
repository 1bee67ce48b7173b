use Rattle.book_fates.specs.Timing.{is_idle}
use Rattle.book_fates.proofs.ListedLemmas.{filter_next}
use Rattle.book_fates.proofs.timing.idle_keys.Goals as goal

pub loop-key-preserved : goal.loop-key-preserved
loop-key-preserved c =
    filter_next (is_idle c.args.timers.now) c.args.keys.now c.loop-key.idle c.put_idle.new.idle c.loop-key.key-index c.key-item.result c.loop-key-test.true c.key-item.is c.in_ok-put_idle.ensures c.loop-key.invariant
