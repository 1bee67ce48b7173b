use Rattle.std.proofs.Common.{sym, ap, ◌∙◌, subst}
use Rattle.driver_step.specs.book_fates.FatesKept.{IsMarkedAt, is_moment}
use Rattle.book_driver.proofs.ChangeLemmas.{out_changes, same_changes}
use Rattle.book_driver.proofs.MarkLemmas.{moment_marks}
use Rattle.book_driver.proofs.marking.pass_or_turn.Goals as goal

pub returns-then-is_moment-clause-changes : goal.returns-then-is_moment-clause-changes
returns-then-is_moment-clause-changes c = out_changes c.args.fates.now.cache c.pass.new.self.cache c.in_ok-expired.expired c.in_ok-expired.ensures.step

pub returns-then-is_moment-clause-marked : goal.returns-then-is_moment-clause-marked
returns-then-is_moment-clause-marked c s came past ps event verdict none kept =
    moment_marks s came past ps c.args.now c.args.event.now c.args.verdict c.pass.new.self (sym c.is_moment.ensures ∙ c.if-is_moment.true) event
    (λ time is. c.in_ok-expired.ensures.marked s came past ps time is kept)

pub returns-clause-changes : goal.returns-clause-changes
returns-clause-changes c = same_changes c.args.fates.now.cache c.turn.new.self.cache c.new.result c.in_ok-turn.ensures.cache

pub returns-clause-marked : goal.returns-clause-marked
returns-clause-marked c s came past ps event verdict none kept =
    subst (λ turn. IsMarkedAt s came past ps c.args.now turn c.turn.new.self) c.turned_by.ensures
    (c.in_ok-turn.ensures.marked s came past ps c.args.now none (ap is_moment event ∙ sym c.is_moment.ensures ∙ c.if-is_moment.false) kept)
