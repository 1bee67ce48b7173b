use Rattle.planned_calls.proofs.CallProofs as laws
use Rattle.planned_calls.proofs.planned_call_laws.next_hold_is_up.Goals as goal

pub returns : goal.returns
returns c = laws.next_hold_is_up
