use Rattle.std.proofs.Common.{sym, subst, arith}
use Rattle.book_streams.specs.Settling.{KeepsMarks}
use Rattle.book_streams.proofs.MarkLemmas.{homes_more, home_keeps, keeps_then}
use Rattle.book_streams.proofs.changed_names.mark_homes.Goals as goal

pub loop-key-preserved : goal.loop-key-preserved
loop-key-preserved c = record {
  kept = keeps_then c.args.marks.now c.loop-key.marks c.mark_home.new.marks c.loop-key.invariant.kept
      (subst (λ ms. KeepsMarks c.loop-key.marks ms) (sym c.mark_home.ensures) (home_keeps c.loop-key.marks c.key-item.result.home));
  same = homes_more c.loop-key.marks c.mark_home.new.marks c.args.keys.now c.loop-key.key-index c.key-item.result (omega (arith, c.loop-key-test.true)) c.key-item.is c.mark_home.ensures c.loop-key.invariant.same;
}
