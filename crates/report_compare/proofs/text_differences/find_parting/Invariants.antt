use Rattle.report_compare.proofs.LineFronts.{AreParted}
use Rattle.report_compare.proofs.text_differences.find_parting.Given as goal

abbrev pub invariant-loop-above : goal.invariant-loop-above
invariant-loop-above l = AreParted l.above l.fn.report l.fn.text l.report_left l.text_left
