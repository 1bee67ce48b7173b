use denote.Param.Send.{sendable}
use Rattle.channel_crossing.proofs.ClusterTree.{snapshot_sync}
use Rattle.channel_crossing.proofs.crossing_laws.snapshot_is_shared.Goals as goal

pub is_shared-requires-sync-T : goal.is_shared-requires-sync-T
is_shared-requires-sync-T c κs = search (sendable, snapshot_sync) depth 6 steps 300000
