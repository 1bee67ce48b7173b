use Rattle.std.proofs.Common.{sym, ap, ◌∙◌}
use Rattle.std.specs.Prelude.{option_map}
use Rattle.book_trees.specs.xds_history.Responses.{answered}
use Rattle.driver_step.specs.book_fates.Delivered.{delivered_in}
use Rattle.book_driver.proofs.ChangeLemmas.{told_changes}
use Rattle.book_driver.proofs.MarkLemmas.{none_brought, response_marks}
use Rattle.book_driver.proofs.marking.mark.Goals as goal

pub returns-in_ok-changed-in-Some-clause-changes : goal.returns-in_ok-changed-in-Some-clause-changes
returns-in_ok-changed-in-Some-clause-changes g c =
    told_changes c.in-Some.response c.args.fates.now.cache c.take.new.self.cache c.in_ok-changed-in-Some.changed c.in_ok-changed-in-Some.ensures.step c.in_ok-changed-in-Some.ensures.listed

pub returns-in_ok-changed-in-Some-clause-marked : goal.returns-in_ok-changed-in-Some-clause-marked
returns-in_ok-changed-in-Some-clause-marked g c s came past ps event verdict brings kept =
    let is = sym (ap (λ o. option_map delivered_in o) c.in-Some.is) ∙ brings in
    response_marks s came past ps c.args.now c.args.event.now c.args.brought.verdict c.in-Some.response c.take.new.self event verdict is (c.in_ok-changed-in-Some.ensures.marked s came past ps c.args.now (sym is) kept)

pub returns-in_ok-expired-in-None-clause-marked : goal.returns-in_ok-expired-in-None-clause-marked
returns-in_ok-expired-in-None-clause-marked g c s came past ps event verdict brings kept =
    c.in_ok-expired-in-None.ensures.marked s came past ps event verdict (none_brought (answered s came) (sym (ap (λ o. option_map delivered_in o) c.in-None.is) ∙ brings)) kept
