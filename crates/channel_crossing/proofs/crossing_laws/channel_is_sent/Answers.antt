use denote.Exit.{yes}
use denote.Param.{param}
use denote.Param.Send.{arg_send, param_send}
use Rattle.channel_crossing.proofs.ChannelCalls.{channel_send}
use Rattle.channel_crossing.proofs.crossing_laws.channel_is_sent.Goals as goal

pub is_sent-requires-send-T : goal.is_sent-requires-send-T
is_sent-requires-send-T g c κs _ = param_send _ _ (arg_send _ yes _ (channel_send (param 0 g.row.J) g.J.Job c.type_bounds.send-J))
