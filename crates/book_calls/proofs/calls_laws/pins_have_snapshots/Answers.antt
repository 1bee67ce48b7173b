use Rattle.book_calls.proofs.SnapshotNumbers.{pins_have_snapshots}
use Rattle.book_calls.proofs.calls_laws.pins_have_snapshots.Goals as goal

pub returns : goal.returns
returns c = pins_have_snapshots
