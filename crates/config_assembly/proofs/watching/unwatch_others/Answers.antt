use Rattle.std.proofs.Common.{sym, ◌∙◌}
use Rattle.config_assembly.proofs.WatchLemmas.{has_alike, unwatch_lone, unwatch_among}
use Rattle.config_assembly.proofs.watching.unwatch_others.Goals as goal
use Rattle.config_assembly.proofs.watching.unwatch_others.Goals.{then-not-contains, else-not-contains}

pub loop-key-preserved : goal.loop-key-preserved
loop-key-preserved c =
    elim c.if-not-contains.branch [
      | then-not-contains w ↦ rw (w.cache-is) (unwatch_lone c.args.cache.now c.loop-key.cache w.unwatch.new.self c.args.keys.now c.args.others.now.keys c.loop-key.key-index c.key-item.result c.loop-key-test.true c.key-item.is
          (sym (has_alike c.args.others.now.keys c.key-item.result) ∙ sym c.contains.ensures ∙ w.if-not-contains.true) w.unwatch.ensures c.loop-key.invariant)
      | else-not-contains w ↦ rw (w.cache-is) (unwatch_among c.args.cache.now c.loop-key.cache c.args.keys.now c.args.others.now.keys c.loop-key.key-index c.key-item.result c.loop-key-test.true c.key-item.is
          (sym (has_alike c.args.others.now.keys c.key-item.result) ∙ sym c.contains.ensures ∙ w.if-not-contains.false) c.loop-key.invariant)
    ]
