use Rattle.session_script.proofs.RoomLemmas.{few_entries}
use Rattle.session_script.proofs.counting.room.Goals as goal

pub returns-clause-enough : goal.returns-clause-enough
returns-clause-enough c = λ readable journal listed. rw (c.entries.ensures, c.as_slice.ensures) (few_entries readable c.args.session.now.callers c.args.session.now.lines journal listed)
