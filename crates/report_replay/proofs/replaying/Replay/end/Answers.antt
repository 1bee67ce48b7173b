use Rattle.std.proofs.Common.{All, subst}
use Rattle.turn_player.specs.TableSeats.{HasNoLineLeft}
use Rattle.report_replay.specs.ReplayedTurns.{ReplayView}
use Rattle.report_replay.proofs.replaying.Replay.end.Goals as goal

pub returns-in-None : goal.returns-in-None
returns-in-None g c = subst (λ (r : ReplayView). All (HasNoLineLeft r.plan) r.seats) c.self.view_is (c.left_line.ensures.left c.in-None.is)
