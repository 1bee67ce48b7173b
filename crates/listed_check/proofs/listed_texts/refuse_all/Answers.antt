use Rattle.listed_check.proofs.TextLemmas.{all_refused, seen_more}
use Rattle.listed_check.proofs.listed_texts.refuse_all.Goals as goal

pub loop-text-preserved : goal.loop-text-preserved
loop-text-preserved c = record {
  knows = c.in_ok-refuse_once.ensures.knows;
  seen = seen_more c.args.texts.now c.loop-text.text-index c.text-item.result c.loop-text.seen c.refuse_once.new.seen c.loop-text-test.true c.text-item.is c.in_ok-refuse_once.ensures.seen c.loop-text.invariant.seen;
}

pub returns : goal.returns
returns c = all_refused c.args.texts.now c.loop-text.text-index c.loop-text.asked c.loop-text.seen c.loop-text-test.false c.loop-text.invariant.knows c.loop-text.invariant.seen
