use Rattle.std.proofs.Common.{◌≡◌, ◌++◌, List, length, take, ℕ}
use Rattle.grpc_framing.specs.Cut.{cut}
use Rattle.grpc_framing.proofs.frames.take_frames.Given as goal

abbrev pub invariant-loop-payload : goal.invariant-loop-payload
invariant-loop-payload l = record {
  payloads : l.out ++ (cut l.rest).payloads ≡ l.fn.out ++ (cut l.bytes).payloads;
  rest : (cut l.rest).rest ≡ (cut l.bytes).rest;
  tail : (front : List ℕ) × (l.bytes ≡ front ++ l.rest);
  kept : take (length l.fn.out) l.out ≡ l.fn.out;
}

abbrev pub decreases-loop-payload : goal.decreases-loop-payload
decreases-loop-payload l = length l.rest
