use Rattle.std.proofs.Common.{◌≡◌, rules}
use Rattle.config_assembly.proofs.WatchLemmas.{set_next}
use Rattle.config_assembly.proofs.watching.set_of.Goals as goal

pub loop-key-preserved : goal.loop-key-preserved
loop-key-preserved c =
    let copy : c.in_ok-clone.field-0 ≡ c.key-item.result = search rules in
    set_next c.loop-key.set.keys c.insert.new.self.keys c.args.keys.now c.loop-key.key-index c.key-item.result c.in_ok-clone.field-0 c.loop-key-test.true c.key-item.is copy c.in_ok-insert.ensures.keys c.loop-key.invariant
