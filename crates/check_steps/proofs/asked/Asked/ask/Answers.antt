use Rattle.std.proofs.Common.{rules, None, Some, refl}
use Rattle.check_steps.proofs.AskingLemmas.{asks_kept, asks_lost, asks_refused, asks_same, built_told, gains_it, refused_told}
use Rattle.check_steps.proofs.asked.Asked.ask.Goals as goal

pub returns-in_err-keep-in-Ok-clause-asked : goal.returns-in_err-keep-in-Ok-clause-asked
returns-in_err-keep-in-Ok-clause-asked g c = asks_same c.in_err-keep-in-Ok.ensures.err c.in-Ok.ensures.refused

pub returns-in_err-stop-in-Err-Refused-clause-asked : goal.returns-in_err-stop-in-Err-Refused-clause-asked
returns-in_err-stop-in-Err-Refused-clause-asked g c = asks_lost c.args.text.now refl c.requires (rw c.as_str.ensures at (rw c.in-Err-Refused.field-0-is at c.in-Err-Refused.ensures.refused)) (search rules)

pub returns-in_err-refuse-in-Err-Refused-clause-asked : goal.returns-in_err-refuse-in-Err-Refused-clause-asked
returns-in_err-refuse-in-Err-Refused-clause-asked g c = asks_lost c.args.text.now c.in_err-refuse-in-Err-Refused.ensures.err c.requires (rw c.as_str.ensures at (rw c.in-Err-Refused.field-0-is at c.in-Err-Refused.ensures.refused)) (search rules)

pub returns-in_ok-keep-in-Ok-clause-value : goal.returns-in_ok-keep-in-Ok-clause-value
returns-in_ok-keep-in-Ok-clause-value g c = built_told c.keep.new.self c.args.text.now _ (gains_it c.args.self.now c.keep.new.self c.args.text.now (Some c.args.text.now) c.in_ok-keep-in-Ok.ensures.gains) (search rules)

pub returns-in_ok-keep-in-Ok-clause-asked : goal.returns-in_ok-keep-in-Ok-clause-asked
returns-in_ok-keep-in-Ok-clause-asked g c = asks_kept c.args.text.now (Some c.args.text.now) c.in_ok-keep-in-Ok.ensures.gains c.in_ok-keep-in-Ok.ensures.refused c.requires c.in-Ok.ensures.refused

pub returns-in_ok-refuse-in-Err-Refused-clause-value : goal.returns-in_ok-refuse-in-Err-Refused-clause-value
returns-in_ok-refuse-in-Err-Refused-clause-value g c = refused_told c.refuse.new.self c.args.text.now _ (gains_it c.args.self.now c.refuse.new.self c.args.text.now None c.in_ok-refuse-in-Err-Refused.ensures.gains) (search rules)

pub returns-in_ok-refuse-in-Err-Refused-clause-asked : goal.returns-in_ok-refuse-in-Err-Refused-clause-asked
returns-in_ok-refuse-in-Err-Refused-clause-asked g c = asks_refused c.args.text.now c.in_ok-stop-in-Err-Refused.stop c.fit.ensures c.in_ok-refuse-in-Err-Refused.ensures.gains c.in_ok-refuse-in-Err-Refused.ensures.refused c.requires (rw c.as_str.ensures at (rw c.in-Err-Refused.field-0-is at c.in-Err-Refused.ensures.refused)) (search rules)

pub returns-in-Err-Memory-clause-asked : goal.returns-in-Err-Memory-clause-asked
returns-in-Err-Memory-clause-asked g c = asks_same (search rules) (rw c.in-Err-Memory.field-0-is at c.in-Err-Memory.ensures.refused)
