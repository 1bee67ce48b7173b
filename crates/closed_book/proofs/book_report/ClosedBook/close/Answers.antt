use Rattle.std.proofs.Common.{rules, ◌≡◌, length}
use Rattle.std.specs.Prelude.{IsTrue}
use Rattle.channel_plan.specs.xds_book.BookKept.{HasActors}
use Rattle.closed_book.proofs.ReadyProofs.{plays}
use Rattle.closed_book.proofs.book_report.ClosedBook.close.Goals as goal

pub returns-then-not-have_played_all-clause-plays : goal.returns-then-not-have_played_all-clause-plays
returns-then-not-have_played_all-clause-plays g c = λ ready same.
    let actors : HasActors g.J.Job.plan (length c.args.self.now.book.counts) = search (rules, c.actors-actors.ensures.plan, c.actors-actors.ensures.counts) in
    let plan_is : c.sweep.new.self.plan.actors ≡ c.args.self.now.plan.actors = search (rules, c.sweep.ensures.plan) in
    let lanes_are : c.as_slice-callers.result.now ≡ c.args.self.now.lanes = search (rules, c.as_slice-callers.ensures, c.sweep.ensures.lanes) in
    let played : IsTrue c.have_played_all.result =
    plays g.J.Job.plan c.args.self.now.plan.actors c.sweep.new.self.plan.actors c.args.self.now.book c.sweep.new.self.book c.args.driver.now c.sweep.new.driver c.args.self.now.lanes c.as_slice-callers.result.now c.have_played_all.result
    c.args.self.now.planned plan_is lanes_are actors c.requires.driver c.actors-actors.ensures.counted c.in_ok-sweep.ensures.drives c.have_played_all.ensures.all ready in
    search (rules, played, c.if-not-have_played_all.true)
