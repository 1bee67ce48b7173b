use Rattle.std.proofs.Common.{rules}
use Rattle.std.specs.Prelude.{IsTrue}
use Rattle.closed_book.proofs.book_report.ClosedBook.sweep.Goals as goal

pub returns-then-not-may_sweep-clause-ready : goal.returns-then-not-may_sweep-clause-ready
returns-then-not-may_sweep-clause-ready g c = λ ready same.
    let may : IsTrue c.may_sweep.result = c.may_sweep.ensures.may c.args.self.now.lanes ready in
    search (rules, may, c.if-not-may_sweep.true)
