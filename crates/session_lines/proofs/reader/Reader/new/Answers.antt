use Rattle.session_lines.proofs.KeptLemmas.{kept_none}
use Rattle.session_lines.proofs.reader.Reader.new.Goals as goal

pub invariant_of-result : goal.invariant_of-result
invariant_of-result c = rw c.new.ensures.items (kept_none c.new-2.result.items c.new-2.ensures.items)
