use Rattle.grpc_framing.proofs.RunLemmas.{any_pieces}
use Rattle.grpc_framing.proofs.frame_laws.any_pieces.Goals as goal

pub returns : goal.returns
returns c = any_pieces
