use Rattle.std.proofs.Common.{◌∙◌}
use Rattle.session_plan.proofs.PayloadLemmas.{texts_are}
use Rattle.session_plan.proofs.readable_payloads.are_texts.Goals as goal

pub returns : goal.returns
returns c = c.all_texts.ensures ∙ texts_are c.args.number c.args.list.now
