use Rattle.config_assembly.proofs.WatchLemmas.{watch_next}
use Rattle.config_assembly.proofs.watching.watch_all.Goals as goal

pub loop-key-preserved : goal.loop-key-preserved
loop-key-preserved c = watch_next c.args.cache.now c.loop-key.cache c.watch.new.self c.args.keys.now c.loop-key.key-index c.key-item.result c.loop-key-test.true c.key-item.is c.in_ok-watch.ensures.ok c.loop-key.invariant
