use Rattle.std.proofs.Common.{◌++◌, List, ℕ, Option, ap, ◌∙◌}
use Rattle.check_steps.proofs.AskingLemmas.{asks_nothing}
use Rattle.resource_check.specs.Answers.{new_text}
use Rattle.resource_check.proofs.DeliveryLemmas.{told_more}
use Rattle.resource_check.proofs.preparation.check_resource.Goals as goal

pub returns-clause-part : goal.returns-clause-part
returns-clause-part g c = λ refuses agrees. c.in_ok-part.ensures.part _ (c.check_or_halt.ensures.later refuses agrees)

pub returns-clause-gains : goal.returns-clause-gains
returns-clause-gains g c = λ refuses agrees.
    c.check_or_halt.ensures.gains
    ∙ ap (λ (t : Option (List ℕ)). c.args.asked.now.refused ++ new_text c.args.asked.now.refused t) (c.in_ok-part.ensures.text _ (c.check_or_halt.ensures.later refuses agrees))

pub returns-clause-told : goal.returns-clause-told
returns-clause-told g c = λ told is.
    told_more told _ _ _ c.args.asked.now.refused c.check_or_halt.new.asked.refused (c.in_ok-part.ensures.told _ _ _ c.check_or_halt.ensures.told) c.check_or_halt.ensures.gains is
