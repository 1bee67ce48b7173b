use Rattle.book_calls.proofs.ReferenceProofs.{drivers_change_none}
use Rattle.book_calls.proofs.calls_laws.drivers_change_no_references.Goals as goal

pub returns : goal.returns
returns c = drivers_change_none
