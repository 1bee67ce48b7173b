use Rattle.replay_law.proofs.replay_laws.replayed_is_one.Goals as goal
use Rattle.replay_law.proofs.ReplayProofs.{replayed_is_one}

pub returns : goal.returns
returns c = replayed_is_one
