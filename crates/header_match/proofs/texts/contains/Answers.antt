use Rattle.header_match.proofs.TextLemmas.{found_here, not_here}
use Rattle.header_match.proofs.texts.contains.Goals as goal

pub returns-then-begins_with : goal.returns-then-begins_with
returns-then-begins_with c =
    found_here c.args.no_case c.args.text.now _ c.args.part.now c.loop-at.at _ c.loop-at-test.true c.split_at.ensures.back c.begins_with.ensures c.if-begins_with.true c.loop-at.invariant

pub loop-at-preserved : goal.loop-at-preserved
loop-at-preserved c =
    not_here c.args.no_case c.args.text.now _ c.args.part.now c.loop-at.at _ c.loop-at-test.true c.split_at.ensures.back c.begins_with.ensures c.if-begins_with.false c.loop-at.invariant
