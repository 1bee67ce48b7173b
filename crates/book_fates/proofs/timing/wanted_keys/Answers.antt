use Rattle.std.proofs.Common.{arith}
use Rattle.xds_cache.specs.KeptFates.{fate_of}
use Rattle.config_assembly.specs.Reach.{is_wanted}
use Rattle.book_fates.proofs.ListedLemmas.{filter_next}
use Rattle.book_fates.proofs.timing.wanted_keys.Goals as goal

pub loop-key-preserved : goal.loop-key-preserved
loop-key-preserved g c = record {
  found = filter_next (λ key. is_wanted (fate_of c.args.cache.now key)) c.args.keys.now c.loop-key.wanted c.put_wanted.new.wanted c.loop-key.key-index c.key-item.result c.loop-key-test.true c.key-item.is c.in_ok-put_wanted.ensures.put c.loop-key.invariant.found;
  counted = omega (arith, c.put_wanted.ensures.cost, c.loop-key.invariant.counted);
}
