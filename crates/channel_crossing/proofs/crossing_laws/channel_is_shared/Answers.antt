use denote.Exit.{yes}
use denote.Param.{param}
use denote.Param.Send.{arg_sync, param_sync}
use Rattle.channel_crossing.proofs.ChannelCalls.{channel_sync}
use Rattle.channel_crossing.proofs.crossing_laws.channel_is_shared.Goals as goal

pub is_shared-requires-sync-T : goal.is_shared-requires-sync-T
is_shared-requires-sync-T g c κs _ = param_sync _ _ (arg_sync _ yes _ (channel_sync (param 0 g.row.J) g.J.Job c.type_bounds.send-J))
