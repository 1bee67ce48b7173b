use Rattle.planned_calls.proofs.CallProofs as laws
use Rattle.planned_calls.proofs.planned_call_laws.next_start_is_new.Goals as goal

pub returns : goal.returns
returns c = laws.next_start_is_new
