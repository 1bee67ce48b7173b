use Rattle.std.proofs.Common.{◌≡◌, ◌+◌, ap}
use Rattle.xc_base.specs.declared.names.Key.{Key}
use Rattle.xc_base.specs.declared.names.Kind.{Kind}
use Rattle.book_calls.specs.xds_history.Setting.{setting_of}
use Rattle.xds_book.proofs.BeginLemmas.{first_seen, kept_first}
use Rattle.xds_book.proofs.channel_book.Book.begin.Goals as goal

pub invariant_of-book : goal.invariant_of-book
invariant_of-book g c =
    let kind : c.args.target.key.kind ≡ Kind.Listener = ap (λ (k : Key). k.kind) c.requires.listener in
    let listener = rw (c.requires.target) at kind in
    let driver = rw (c.requires.boot, c.requires.target) at c.in_ok-driver.ensures in
    kept_first g.J.Job.plan g.J.Job.archive (setting_of g.J.Job.boot g.J.Job.target) c.args.archive c.in_ok-journal.journal c.new-3.result c.new-4.result c.in_ok-driver.driver c.new-5.result (c.args.callers + 1)
    c.requires.archive listener c.requires.plan c.in_ok-journal.ensures.entries c.in_ok-journal.ensures.counts c.new-3.ensures.tickets c.new-5.ensures
    (record { calls_are = c.new-3.ensures.kept g.J.Job.archive; turns_are = c.new-4.ensures; driver_is = driver })

pub returns-clause-book : goal.returns-clause-book
returns-clause-book g c =
    first_seen c.in_ok-journal.journal.entries c.in_ok-journal.journal.spare c.in_ok-journal.journal.counts c.new-3.result.tickets (c.args.callers + 1) c.args.room
    c.in_ok-journal.ensures.entries c.in_ok-journal.ensures.spare c.in_ok-journal.ensures.counts c.new-3.ensures.tickets
