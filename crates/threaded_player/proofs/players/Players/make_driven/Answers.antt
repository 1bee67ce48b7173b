use Rattle.std.proofs.Common.{◌∙◌}
use Rattle.threaded_player.proofs.DriverTexts.{driver_more}
use Rattle.threaded_player.proofs.players.Players.make_driven.Goals as goal

pub returns-in-Ok : goal.returns-in-Ok
returns-in-Ok g c = record {
  driven = λ told from. driver_more told (g.P.Patterns.refused c.args.patterns.now) (g.P.Patterns.refused c.drive.new.patterns) c.args.lane.now c.drive.new.lane c.in-Ok.ensures.lane from;
  actor = c.in-Ok.ensures.lane.lane.actor ∙ c.requires.driver;
}
