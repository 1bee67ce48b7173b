-- Which types of `cluster_tree` that hold a pattern may cross threads.
use denote.Param.Send.{IsSend, IsSync, sendable}
use denote.Param.SendFields.{declared_send, declared_sync}
use Rattle.std.proofs.Crossing.{crosses}
use Rattle.channel_crossing.proofs.XdsConfig.{config_send, config_sync}
use Rattle.tree_text.proofs.shown_tree.ShownTree.TheSendSync.{the_send as shown_tree_send, the_sync as shown_tree_sync}
use Rattle.block_list.proofs.block_list.BlockList.TheSendSync.{the_send as block_list_send, the_sync as block_list_sync}
use Rattle.xc_base.proofs.reason.Reason.TheSendSync.{the_send as reason_send, the_sync as reason_sync}
use Rattle.xc_base.proofs.shared.Shared.TheSendSync.{the_send as shared_send, the_sync as shared_sync}
use Rattle.cluster_tree.specs.contracts.snapshot.Snapshot as Snapshot

pub snapshot_send : IsSend Snapshot.the_row
snapshot_send = declared_send Snapshot.the_type (search (sendable, crosses, shared_send, shared_sync, config_send, config_sync, block_list_send, shown_tree_send, shown_tree_sync, reason_send, reason_sync) depth 30 steps 3000000)

pub snapshot_sync : IsSync Snapshot.the_row
snapshot_sync = declared_sync Snapshot.the_type (search (sendable, crosses, shared_send, shared_sync, config_send, config_sync, block_list_sync, shown_tree_send, shown_tree_sync, reason_send, reason_sync) depth 30 steps 3000000)
