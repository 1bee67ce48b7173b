use Rattle.std.proofs.Common.{arith, length-drop, sym, ◌∙◌}
use Rattle.std.proofs.lemmas.List.{take_rest}
use Rattle.xc_base.proofs.StreamLemmas.{appends_more}
use Rattle.line_output.proofs.WrittenText.{cut_twice, on_err_of, prefix_of_next}
use Rattle.line_output.proofs.line_writing.write_lines.Goals as goal

pub loop-at-preserved : goal.loop-at-preserved
loop-at-preserved g c = record {
  within = let b = rw take_rest at c.line_len-len.ensures.within in omega (arith, b, length-drop c.loop-at.at c.as_bytes-text.result.now);
  bytes = appends_more (g.K.Sink.held c.args.sink.now) (g.K.Sink.held c.loop-at.sink) (g.K.Sink.held c.write_all.new.sink) c.as_bytes-text.result.now c.loop-at.at c.line_len-len.result c.loop-at.invariant.bytes (rw (c.split_at.ensures.front, take_rest) at c.in_ok-write_all.ensures.ok);
  later = omega (arith, c.loop-at.invariant.later, c.in_ok-write_all.ensures.cause.later);
}

pub returns-in_err-write_all-clause-prefix : goal.returns-in_err-write_all-clause-prefix
returns-in_err-write_all-clause-prefix g c =
    on_err_of c.from_residual.result
    (prefix_of_next (g.K.Sink.held c.args.sink.now) (g.K.Sink.held c.loop-at.sink) (g.K.Sink.held c.write_all.new.sink) _ _ _ _
    (sym c.as_bytes-text.ensures.value ∙ cut_twice c.as_bytes-text.result.now c.loop-at.at c.line_len-len.result) c.loop-at.invariant.bytes
    (rw (c.split_at.ensures.front, take_rest) at c.in_err-write_all.ensures.prefix))
