use Rattle.threaded_player.proofs.DriverTexts.{driver_first}
use Rattle.threaded_player.proofs.players.Players.drive.Goals as goal

pub returns : goal.returns
returns g c = record {
  driven = c.in_ok-drive_all.ensures.driven (g.P.Patterns.refused c.args.patterns.now) (driver_first (g.P.Patterns.refused c.args.patterns.now) c.args.lane c.requires.first);
}
