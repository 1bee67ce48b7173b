use Rattle.std.proofs.Common.{rules, Some}
use Rattle.check_steps.specs.Asking.{Gains, IsKept}
use Rattle.check_steps.proofs.AskingLemmas.{kept_built}
use Rattle.check_steps.proofs.asked.Asked.keep.Goals as goal

pub invariant_of-self-2 : goal.invariant_of-self-2
invariant_of-self-2 c =
    let kept : IsKept c.args.self.now = rw (← c.self.view_is) c.self.invariant in
    let gains : Gains c.args.self.now record { answers = c.insert.new.self.entries; refused = c.self.inside.refused.items } c.args.text.now (Some c.args.text.now) = search rules in
    kept_built c.args.text.now kept gains (search rules) c.requires.new
