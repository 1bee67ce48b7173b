use Rattle.check_steps.proofs.AskingLemmas.{kept_agree}
use Rattle.check_steps.proofs.asked.Asked.agree.Goals as goal

pub returns : goal.returns
returns c = rw (← c.self.view_is) (kept_agree record { answers = c.self.inside.answers.entries; refused = c.self.inside.refused.items } c.self.invariant)
