use Rattle.std.proofs.Common.{rules, ◌≡◌, Some}
use Rattle.check_steps.specs.Asking.{IsKept, answer_to}
use Rattle.check_steps.proofs.AskingLemmas.{known_built}
use Rattle.check_steps.proofs.asked.Asked.answer_for.Goals as goal

pub returns-in_ok-pattern-in-Some-Some : goal.returns-in_ok-pattern-in-Some-Some
returns-in_ok-pattern-in-Some-Some c =
    let kept : IsKept c.args.self.now = rw (← c.self.view_is) c.self.invariant in
    let found : answer_to c.args.self.now c.args.text.now ≡ Some (Some c.in-Some-Some.pattern) = search rules in
    known_built c.args.self.now c.args.text.now c.in_ok-pattern-in-Some-Some.pattern c.in-Some-Some.pattern kept found (search rules)
