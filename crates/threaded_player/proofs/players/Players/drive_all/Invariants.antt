use Rattle.std.proofs.Common.{◌≡◌, List}
use Rattle.config_assembly.specs.Orders.{Name}
use Rattle.threaded_player.specs.ThreadedPlay.{IsDriverFrom}
use Rattle.threaded_player.proofs.players.Players.drive_all.Given as goal

abbrev pub invariant-loop : goal.invariant-loop
invariant-loop g l =
    (l.lane.actor ≡ 0)
    × ((told : List Name) → IsDriverFrom told (g.P.Patterns.refused l.fn.patterns) l.fn.lane → IsDriverFrom told (g.P.Patterns.refused l.patterns) l.lane)
