use Rattle.planned_calls.proofs.RoomProofs as laws
use Rattle.planned_calls.proofs.planned_call_laws.next_has_room.Goals as goal

pub returns : goal.returns
returns c = laws.next_has_room
