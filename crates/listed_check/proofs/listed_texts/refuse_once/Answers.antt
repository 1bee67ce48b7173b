use Rattle.listed_check.proofs.TextLemmas.{gained, knows_more}
use Rattle.listed_check.proofs.listed_texts.refuse_once.Goals as goal

pub returns-in_ok-refuse-clause-seen : goal.returns-in_ok-refuse-clause-seen
returns-in_ok-refuse-clause-seen c = λ other. gained c.args.text.now c.in_ok-clone.field-0 other c.args.seen.now c.insert.new.self c.in_ok-clone.ensures.cases (c.in_ok-insert.ensures.updates.0 other)

pub returns-in_ok-refuse-clause-knows : goal.returns-in_ok-refuse-clause-knows
returns-in_ok-refuse-clause-knows c =
    knows_more c.args.asked.now c.refuse.new.self c.args.seen.now c.insert.new.self c.args.text.now c.requires c.in_ok-refuse.ensures.gains c.in_ok-refuse.ensures.refused
    (λ other. gained c.args.text.now c.in_ok-clone.field-0 other c.args.seen.now c.insert.new.self c.in_ok-clone.ensures.cases (c.in_ok-insert.ensures.updates.0 other))
