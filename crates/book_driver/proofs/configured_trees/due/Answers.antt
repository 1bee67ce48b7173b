use Rattle.std.proofs.Common.{subst}
use Rattle.book_trees.specs.xds_history.Pages.{pages}
use Rattle.book_driver.specs.ShownTrees.{AreSeen}
use Rattle.book_driver.proofs.PublishedLemmas.{some_due}
use Rattle.book_driver.proofs.configured_trees.due.Goals as goal

pub returns-in-Some : goal.returns-in-Some
returns-in-Some c = record {
  number = λ s event past config are lawful shows latest_is.
      some_due s event past config c.in-Some.seen c.due_number.result (subst (λ o. AreSeen s event past config o) c.in-Some.is are) lawful
      (λ stands lawful_is is. c.due_number.ensures.due past (pages s past) (stands, c.in-Some.seen.views) shows latest_is is.differs_is);
}
