use Rattle.check_steps.proofs.asked.Asked.fit.Goals as goal

pub returns : goal.returns
returns c = rw (← c.self.view_is) c.self.invariant
