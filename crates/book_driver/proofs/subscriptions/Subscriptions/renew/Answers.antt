use Rattle.std.proofs.Common.{Some, sym, subst}
use Rattle.book_driver.specs.Subscribed.{IsAnsweredAt}
use Rattle.book_driver.proofs.SubscribedLemmas.{renewal_answers}
use Rattle.book_driver.proofs.subscriptions.Subscriptions.renew.Goals as goal

pub returns-clause-step : goal.returns-clause-step
returns-clause-step g c s past at timely =
    subst (λ least. IsAnsweredAt s past c.args.event.now c.args.prepared c.in_ok-renewal.renewal (record { watcher = c.renew.new.self; last = Some record { missing = least } })) (sym c.in_ok-missing.ensures)
    (renewal_answers s past c.args.event.now c.args.prepared c.in_ok-renewal.renewal c.renew.new.self (c.in_ok-renewal.ensures.step s past at timely))
