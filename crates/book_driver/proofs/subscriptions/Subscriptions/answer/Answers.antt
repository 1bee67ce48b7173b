use Rattle.std.proofs.Common.{◌≡◌, Some, sym, ap, ◌∙◌, subst}
use Rattle.book_driver.specs.Subscribed.{IsAnsweredAt}
use Rattle.book_driver.specs.Courses.{IsCourse, quiet_answer}
use Rattle.book_driver.specs.WatcherKept.{IsTimely, IsWatcherAt}
use Rattle.book_driver.specs.declared.subscriptions.Subscriptions.{Subscriptions}
use Rattle.book_driver.proofs.SubscribedLemmas.{quiet_answer_is}
use Rattle.book_driver.proofs.subscriptions.Subscriptions.answer.Goals as goal

pub returns-in_ok-renewal-in-Repeats-clause-step : goal.returns-in_ok-renewal-in-Repeats-clause-step
returns-in_ok-renewal-in-Repeats-clause-step g c s past at timely =
    let last = c.in-Repeats.last in
    let with : Subscriptions → Subscriptions = λ v. record { watcher = v.watcher; last = Some last } in
    let by = (subst (IsCourse c.args.event.now c.args.calls c.args.self.now) c.in-Repeats.is c.in_ok-last.ensures.course) s past at timely.referred in
    subst (λ r. IsAnsweredAt s past c.args.event.now c.args.prepared r c.repeat.new.self) (sym c.in_ok-renewal-in-Repeats.ensures.answer)
    (subst (λ v. IsAnsweredAt s past c.args.event.now c.args.prepared (quiet_answer last.missing c.in_ok-renewal-in-Repeats.renewal.others) v) (sym (c.in_ok-renewal-in-Repeats.ensures.last ∙ ap with c.take_course.ensures.rest))
    (quiet_answer_is s past c.args.event.now c.args.prepared c.args.self.now last c.in_ok-renewal-in-Repeats.renewal.others at by))

pub returns-in_ok-renewal-in-Renews-clause-step : goal.returns-in_ok-renewal-in-Renews-clause-step
returns-in_ok-renewal-in-Renews-clause-step g c s past at timely =
    let same : c.take_course.new.self.watcher ≡ c.args.self.now.watcher = ap (λ (v : Subscriptions). v.watcher) c.take_course.ensures.rest in
    c.in_ok-renewal-in-Renews.ensures.step s past (subst (IsWatcherAt s past) (sym same) at.watcher_is)
    (subst (λ w. IsTimely s past c.args.event.now c.args.now c.args.calls w.deps.shown) (sym same) timely)
