use Rattle.std.proofs.Common.{rules, None}
use Rattle.check_steps.specs.Asking.{Gains, IsKept}
use Rattle.check_steps.proofs.AskingLemmas.{kept_refused}
use Rattle.check_steps.proofs.asked.Asked.refuse.Goals as goal

pub invariant_of-self-2 : goal.invariant_of-self-2
invariant_of-self-2 c =
    let kept : IsKept c.args.self.now = rw (← c.self.view_is) c.self.invariant in
    let gains : Gains c.args.self.now record { answers = c.insert.new.self.entries; refused = c.push_reserved.new.self.items } c.args.text.now None = search rules in
    kept_refused c.args.text.now kept gains (search rules)
