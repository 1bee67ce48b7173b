use Rattle.std.proofs.Common.{length}
use Rattle.session_lines.specs.SessionViews.{words_in}
use Rattle.session_lines.proofs.FieldLemmas.{AreUnderWay}
use Rattle.session_lines.proofs.fields.fields_in.Given as goal

abbrev pub invariant-loop-word : goal.invariant-loop-word
invariant-loop-word l = AreUnderWay (words_in l.fn.words) (words_in l.rest) l.fields

abbrev pub decreases-loop-word : goal.decreases-loop-word
decreases-loop-word l = length (words_in l.rest)
