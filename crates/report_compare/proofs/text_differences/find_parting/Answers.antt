use Rattle.std.proofs.Common.{rules, ◌<◌, ◌+◌, ◌^◌, length, refl, arith}
use Rattle.report_compare.proofs.LineFronts.{never_ends, parted_above, parted_differs, parted_first, parted_next}
use Rattle.report_compare.proofs.text_differences.find_parting.Goals as goal

pub loop-above-init : goal.loop-above-init
loop-above-init c = parted_first c.args.report.now c.args.text.now

pub loop-above-preserved : goal.loop-above-preserved
loop-above-preserved c =
    let line = c.first_line.ensures in
    let other = c.first_line-in-loop-above.ensures in
    let same = c.are_same.ensures.0 c.if-not-are_same.false in
    parted_next c.loop-above.above _ c.args.report.now c.args.text.now c.loop-above.report_left.now c.loop-above.text_left.now c.first_line.result.0.now c.first_line-in-loop-above.result.0.now c.first_line.result.1.now
    c.first_line-in-loop-above.result.1.now c.loop-above.invariant refl line.whole line.line other.whole other.line same.0 same.1

pub returns-then-not-are_same-clause-above : goal.returns-then-not-are_same-clause-above
returns-then-not-are_same-clause-above c =
    parted_above c.loop-above.above (c.loop-above.above + 1) c.args.report.now c.args.text.now c.loop-above.report_left.now c.loop-above.text_left.now c.loop-above.invariant (omega arith)

pub returns-then-not-are_same-clause-differs : goal.returns-then-not-are_same-clause-differs
returns-then-not-are_same-clause-differs c =
    let line = c.first_line.ensures in
    let other = c.first_line-in-loop-above.ensures in
    parted_differs c.loop-above.above (c.loop-above.above + 1) c.args.report.now c.args.text.now c.loop-above.report_left.now c.loop-above.text_left.now c.first_line.result.0.now c.first_line-in-loop-above.result.0.now
    c.loop-above.invariant refl line.line other.line (λ both. absurd (cc (c.are_same.ensures.1 both, c.if-not-are_same.true)))

pub unreachable-requires : goal.unreachable-requires
unreachable-requires c =
    let short : length c.args.report.now < 2 ^ 63 = search rules in
    never_ends c.loop-above.above c.args.report.now c.args.text.now c.loop-above.report_left.now c.loop-above.text_left.now c.loop-above.invariant short (omega (arith, c.loop-above-test.false, c.loop-above.auto.above-end))
