use Rattle.book_fates.specs.Timing.{is_turned}
use Rattle.book_fates.proofs.ListedLemmas.{filter_next}
use Rattle.book_fates.proofs.timing.turned_keys.Goals as goal

pub loop-key-preserved : goal.loop-key-preserved
loop-key-preserved c =
    filter_next (λ key. is_turned c.args.turn key.home) c.args.keys.now c.loop-key.turned c.put_turned.new.turned c.loop-key.key-index c.key-item.result c.loop-key-test.true c.key-item.is c.in_ok-put_turned.ensures c.loop-key.invariant
