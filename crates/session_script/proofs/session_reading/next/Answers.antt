use Rattle.std.proofs.Common.{refl}
use Rattle.session_lines.specs.Lines.{lines_of}
use Rattle.session_script.proofs.session_reading.next.Goals as goal

pub returns-in-None : goal.returns-in-None
unfolding lines_of
returns-in-None c = rw (c.in-None.ensures.none, c.at.ensures) refl
