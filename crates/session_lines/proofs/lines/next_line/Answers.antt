use Rattle.session_lines.proofs.LineLemmas.{line_cut, line_last}
use Rattle.session_lines.proofs.lines.next_line.Goals as goal

pub returns-in-Some-clause-some : goal.returns-in-Some-clause-some
returns-in-Some-clause-some c = line_cut c.args.bytes.now _ _ c.in-Some.ensures.parts

pub returns-in-None-clause-some : goal.returns-in-None-clause-some
returns-in-None-clause-some c = let some = c.is_empty.ensures in line_last c.args.bytes.now (cc) c.in-None.ensures.parts
