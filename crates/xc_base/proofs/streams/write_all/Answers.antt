use Rattle.std.proofs.Common.{arith, length-drop}
use Rattle.std.proofs.lemmas.List.{take_rest}
use Rattle.xc_base.proofs.StreamLemmas.{appends_more, prefix_kept}
use Rattle.xc_base.proofs.streams.write_all.Goals as goal

pub loop-at-preserved : goal.loop-at-preserved
loop-at-preserved g c = record {
  within = let b = rw take_rest at c.in-Ok.ensures.bound in omega (arith, b, length-drop c.loop-at.at c.args.text.now);
  bytes = appends_more (g.K.Sink.held c.args.sink.now) (g.K.Sink.held c.loop-at.sink) (g.K.Sink.held c.write.new.self) c.args.text.now c.loop-at.at c.in-Ok.n c.loop-at.invariant.bytes (rw take_rest at c.in-Ok.ensures.bytes);
  later = omega (arith, c.loop-at.invariant.later, c.in-Ok.ensures.cause.later);
}

pub returns-in-Err-clause-prefix : goal.returns-in-Err-clause-prefix
returns-in-Err-clause-prefix g c =
    prefix_kept (g.K.Sink.held c.args.sink.now) _ (g.K.Sink.held c.write.new.self) c.args.text.now c.loop-at.at c.loop-at.invariant.bytes c.in-Err.ensures.bytes
