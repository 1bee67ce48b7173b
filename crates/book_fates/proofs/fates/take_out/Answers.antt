use Rattle.book_fates.specs.FateSteps.{out_step}
use Rattle.book_fates.proofs.WalkLemmas.{next_key, goes_out, out_again}
use Rattle.book_fates.proofs.fates.take_out.Goals as goal

pub loop-key-preserved : goal.loop-key-preserved
loop-key-preserved c =
    next_key out_step c.args.cache.now c.loop-key.cache c.expire.new.self c.args.keys.now c.loop-key.key-index c.key-item.result out_again c.loop-key-test.true c.key-item.is
    (goes_out c.loop-key.cache c.expire.new.self c.key-item.result c.expire.ensures) c.loop-key.invariant
