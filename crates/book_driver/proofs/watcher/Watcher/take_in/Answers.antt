use Rattle.std.proofs.Common.{refl}
use Rattle.book_trees.specs.xds_history.Pages.{pages}
use Rattle.driver_step.specs.book_streams.StreamsLaws.{came_with}
use Rattle.book_driver.proofs.WatcherLemmas.{heard_by}
use Rattle.book_driver.proofs.RenewalLemmas.{heard_at, told_at}
use Rattle.book_driver.proofs.watcher.Watcher.take_in.Goals as goal

pub returns-clause-heard : goal.returns-clause-heard
returns-clause-heard g c s past at =
    let is = heard_at s past c.args.self.now c.hear.new.streams.states c.args.event.now c.in_ok-heard.heard at c.in_ok-heard.ensures.heard in
    let came = came_with c.args.event.now c.in_ok-heard.heard.verdict c.in_ok-heard.heard.refused in
    heard_by s past came c.args.now c.args.self.now
    (record { alloc = c.args.self.now.alloc; boot = c.args.self.now.boot; deps = c.args.self.now.deps; streams = c.hear.new.streams; fates = c.mark.new.fates })
    at refl refl is.streams_are c.hear.ensures.told
    (c.in_ok-changed.ensures.marked s came past (pages s past) refl refl is.answered_is at.fates_are)

pub returns-clause-told : goal.returns-clause-told
returns-clause-told g c s past at =
    told_at s past c.args.event.now c.hear.new.streams.states c.in_ok-heard.heard c.args.prepared
    (heard_at s past c.args.self.now c.hear.new.streams.states c.args.event.now c.in_ok-heard.heard at c.in_ok-heard.ensures.heard)
    c.in_ok-heard.ensures.texts

pub returns-clause-changed : goal.returns-clause-changed
returns-clause-changed g c right = (c.args.self.now.fates.cache, right, c.in_ok-changed.ensures.changes)
