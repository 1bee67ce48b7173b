use Rattle.turn_law.proofs.InTurnProofs.{entries_in_turn}
use Rattle.turn_law.proofs.turn_laws.entries_in_turn.Goals as goal

pub returns : goal.returns
returns c = entries_in_turn
