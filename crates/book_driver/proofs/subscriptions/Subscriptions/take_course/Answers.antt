use Rattle.std.proofs.Common.{◌≡◌, Some, sym, ap, ◌∙◌, is_some}
use Rattle.book_trees.specs.xds_history.Pages.{pages}
use Rattle.book_trees.specs.xds_history.References.{references}
use Rattle.book_driver.proofs.ServedLemmas.{serving_made}
use Rattle.book_driver.proofs.subscriptions.Subscriptions.take_course.Goals as goal

pub returns-then-branch-clause-course : goal.returns-then-branch-clause-course
returns-then-branch-clause-course c s past at referred =
    let w = c.args.self.now.watcher in
    let last : c.args.self.now.last ≡ Some c.in-Some.last = sym c.take.ensures.value ∙ c.in-Some.is in
    record {
      report = sym c.is_report.ensures ∙ c.if-not-is_report.false;
      last_is = last;
      serves = serving_made w.deps (references (pages s past)) (at.watcher_is.made (sym at.driven_is ∙ ap (λ o. is_some o) last))
          (c.in_ok-are_served.ensures.served c.if-branch.true w.boot.authorities w.fates.cache (pages s past) at.watcher_is.right referred at.watcher_is.serves);
    }
