use Rattle.std.proofs.Common.{◌∙◌, ◌+◌, ap, arith, sym, ◌++◌}
use Rattle.std.proofs.KnownBytes.{Appends-trans}
use Rattle.line_output.proofs.WrittenText.{on_err_of, prefix_of_next, prefix_so_far}
use Rattle.xc_base.proofs.StreamLemmas.{prefix_then}
use Rattle.session_generator.specs.Generated.{generated}
use Rattle.session_generator.specs.Rounds.{round_lines}
use Rattle.session_generator.proofs.GeneratedLemmas.{begins, one_more, so_far, split_at_round}
use Rattle.session_generator.proofs.session_writing.write_session.Goals as goal

pub returns-in_err-write_lines-clause-prefix : goal.returns-in_err-write_lines-clause-prefix
returns-in_err-write_lines-clause-prefix g c =
    let rest = so_far c.args.n 0 (omega arith) in
    let all = rest.1 ∙ ap (λ t. t ++ rest.0) (begins ∙ sym c.first_lines.ensures) in
    on_err_of c.from_residual.result (rw all (prefix_then (g.K.Sink.held c.args.sink.now) (g.K.Sink.held c.write_lines.new.sink) c.first_lines.result.now rest.0 c.in_err-write_lines.ensures.prefix))

pub loop-before-init : goal.loop-before-init
loop-before-init g c = record {
  bytes = rw (begins ∙ sym c.first_lines.ensures) c.in_ok-write_lines.ensures.ok;
  later = c.in_ok-write_lines.ensures.cause.later;
}

pub returns-in_err-set_round-clause-prefix : goal.returns-in_err-set_round-clause-prefix
returns-in_err-set_round-clause-prefix g c =
    let rest = so_far c.args.n c.loop-before.before (omega (arith, c.loop-before-test.true)) in
    on_err_of c.from_residual-in_err-set_round.result
    (prefix_so_far (g.K.Sink.held c.args.sink.now) (g.K.Sink.held c.loop-before.sink) (generated c.loop-before.before) rest.0 (generated c.args.n) rest.1 c.loop-before.invariant.bytes)

pub returns-in_err-write_lines-2-clause-prefix : goal.returns-in_err-write_lines-2-clause-prefix
returns-in_err-write_lines-2-clause-prefix g c =
    let rest = split_at_round c.args.n c.loop-before.before c.loop-before-test.true in
    let text = c.as_str.ensures.value ∙ c.in_ok-set_round.ensures in
    on_err_of c.from_residual-in_err-write_lines-2.result
    (prefix_of_next (g.K.Sink.held c.args.sink.now) (g.K.Sink.held c.loop-before.sink) (g.K.Sink.held c.write_lines-in-loop-before.new.sink) (generated c.loop-before.before) (round_lines (c.loop-before.before + 1)) rest.0 (generated c.args.n) rest.1 c.loop-before.invariant.bytes
    (rw text at c.in_err-write_lines-2.ensures.prefix))

pub loop-before-preserved : goal.loop-before-preserved
loop-before-preserved g c =
    let text = c.as_str.ensures.value ∙ c.in_ok-set_round.ensures in
    record {
      bytes = rw (one_more c.loop-before.before) (Appends-trans (g.K.Sink.held c.args.sink.now) (g.K.Sink.held c.loop-before.sink) (g.K.Sink.held c.write_lines-in-loop-before.new.sink) (generated c.loop-before.before) (round_lines (c.loop-before.before + 1)) c.loop-before.invariant.bytes (rw text at c.in_ok-write_lines-2.ensures.ok));
      later = omega (arith, c.loop-before.invariant.later, c.in_ok-write_lines-2.ensures.cause.later);
    }
