use Rattle.closed_book.proofs.EndedPlays.{legal_by}
use Rattle.closed_book.proofs.book_report.ClosedBook.finish.Goals as goal

pub returns-clause-legal : goal.returns-clause-legal
returns-clause-legal g c = λ session of.
    legal_by g.J.Job.plan g.J.Job.boot g.J.Job.target session c.args.self.plan.actors c.args.self.book c.finish-journal.result.0.entries of c.finish-journal.ensures.entries
    c.finish-journal.ensures.right c.finish-journal.ensures.played c.finish-journal.ensures.actors c.finish-journal.ensures.counts c.finish-journal.ensures.made c.requires.ended c.requires.sweeps
