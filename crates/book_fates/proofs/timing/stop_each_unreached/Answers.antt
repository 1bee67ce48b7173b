use Rattle.std.proofs.Common.{sym, ap, ◌∙◌, not}
use Rattle.config_assembly.specs.Watching.{has_key}
use Rattle.config_assembly.proofs.WatchLemmas.{has_alike}
use Rattle.book_fates.proofs.EntryLemmas.{stop_hit, stop_miss}
use Rattle.book_fates.proofs.timing.stop_each_unreached.Goals as goal
use Rattle.book_fates.proofs.timing.stop_each_unreached.Goals.{then-not-contains, else-not-contains}

pub loop-key-preserved : goal.loop-key-preserved
loop-key-preserved c =
    elim c.if-not-contains.branch [
      | then-not-contains w ↦ rw (w.timers-is) (stop_hit (λ key. not (has_key c.args.reached.now.keys key)) c.args.timers.now c.loop-key.timers w.cancel.new.self c.args.before.now c.loop-key.key-index c.key-item.result c.loop-key-test.true c.key-item.is
          (ap not (sym (has_alike c.args.reached.now.keys c.key-item.result) ∙ sym c.contains.ensures ∙ w.if-not-contains.true)) w.cancel.ensures c.loop-key.invariant)
      | else-not-contains w ↦ rw (w.timers-is) (stop_miss (λ key. not (has_key c.args.reached.now.keys key)) c.args.timers.now c.loop-key.timers c.args.before.now c.loop-key.key-index c.key-item.result c.loop-key-test.true c.key-item.is
          (ap not (sym (has_alike c.args.reached.now.keys c.key-item.result) ∙ sym c.contains.ensures ∙ w.if-not-contains.false)) c.loop-key.invariant)
    ]
