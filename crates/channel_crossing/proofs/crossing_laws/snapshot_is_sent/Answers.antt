use denote.Param.Send.{sendable}
use Rattle.channel_crossing.proofs.ClusterTree.{snapshot_send}
use Rattle.channel_crossing.proofs.crossing_laws.snapshot_is_sent.Goals as goal

pub is_sent-requires-send-T : goal.is_sent-requires-send-T
is_sent-requires-send-T c κs = search (sendable, snapshot_send) depth 6 steps 300000
