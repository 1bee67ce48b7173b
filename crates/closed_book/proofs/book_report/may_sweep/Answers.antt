use Rattle.std.proofs.Common.{None, refl}
use Rattle.closed_book.proofs.ReadyProofs.{something_listed}
use Rattle.closed_book.proofs.book_report.may_sweep.Goals as goal

pub returns-in-None-clause-may : goal.returns-in-None-clause-may
returns-in-None-clause-may g c = λ lanes ready.
    something_listed c.args.plan.now.actors c.args.book.now c.args.driver.now lanes None c.requires.driver c.actors-actors.ensures.counted c.in-None.ensures.some refl ready
