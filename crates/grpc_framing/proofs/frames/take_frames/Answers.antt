use Rattle.std.proofs.Common.{rules, ◌≡◌, ◌++◌, ◌∷◌, [], sym}
use Rattle.grpc_framing.proofs.FrameLemmas.{shorter}
use Rattle.grpc_framing.proofs.ListLemmas.{begins_more}
use Rattle.grpc_framing.proofs.TakeLemmas.{payloads_more, rest_more, tail_more, payloads_end, rest_end}
use Rattle.grpc_framing.proofs.frames.take_frames.Goals as goal

pub loop-payload-smaller : goal.loop-payload-smaller
loop-payload-smaller c = shorter c.loop-payload.rest.now c.in-Some.payload.now c.in-Some.after.now (sym c.in-Some.ensures)

pub loop-payload-preserved : goal.loop-payload-preserved
loop-payload-preserved c =
    let pushed : c.push.new.self ≡ c.loop-payload.out ++ c.in-Some.payload.now ∷ [] = search rules in
    record {
      payloads = rw pushed (payloads_more c.loop-payload.rest.now c.in-Some.payload.now c.in-Some.after.now c.loop-payload.out _ (sym c.in-Some.ensures) c.loop-payload.invariant.payloads);
      rest = rest_more c.loop-payload.rest.now c.in-Some.payload.now c.in-Some.after.now _ (sym c.in-Some.ensures) c.loop-payload.invariant.rest;
      tail = tail_more c.args.bytes.now c.loop-payload.rest.now c.in-Some.payload.now c.in-Some.after.now (sym c.in-Some.ensures) c.loop-payload.invariant.tail;
      kept = rw pushed (begins_more _ _ _ c.loop-payload.invariant.kept);
    }

pub returns-clause-payloads : goal.returns-clause-payloads
returns-clause-payloads c = payloads_end c.loop-payload.rest.now c.loop-payload.out _ (sym c.in_default.ensures) c.loop-payload.invariant.payloads

pub returns-clause-rest : goal.returns-clause-rest
returns-clause-rest c = rest_end c.args.bytes.now c.loop-payload.rest.now _ (sym c.in_default.ensures) c.loop-payload.invariant.rest c.loop-payload.invariant.tail
