use denote.Exit.{yes}
use denote.Param.{param}
use denote.Param.Send.{arg_sync, param_sync}
use Rattle.threaded_player.proofs.PlayerCrossing.{players_sync}
use Rattle.threaded_player.proofs.threaded_playing.play_beside.Goals as goal

pub work_beside-driven-requires-sync-C : goal.work_beside-driven-requires-sync-C
work_beside-driven-requires-sync-C g c κs within = param_sync _ _ (arg_sync _ yes _ (players_sync (param 0 g.row.J) g.J.Job c.type_bounds.send-J))
