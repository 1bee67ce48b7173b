use Rattle.std.proofs.Common.{refl}
use Rattle.turn_player.proofs.turn_playing.Table.early_sweep.Goals as goal

pub returns-in_err-line-clause-left : goal.returns-in_err-line-clause-left
returns-in_err-line-clause-left g c = λ none. c.in_err-line.ensures.left refl
