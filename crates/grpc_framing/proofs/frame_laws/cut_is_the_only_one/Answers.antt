use Rattle.grpc_framing.proofs.OnlyLemmas.{cut_is_the_only_one}
use Rattle.grpc_framing.proofs.frame_laws.cut_is_the_only_one.Goals as goal

pub returns : goal.returns
returns c = cut_is_the_only_one
