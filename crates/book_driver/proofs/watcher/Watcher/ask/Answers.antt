use Rattle.std.proofs.Common.{refl, sym, ◌∙◌, subst}
use Rattle.config_assembly.specs.Watching.{IsWatching}
use Rattle.book_trees.specs.xds_history.Pages.{came, pages}
use Rattle.driver_step.specs.book_fates.Timing.{AreAskedBy, NoneWanted}
use Rattle.driver_step.specs.book_fates.FatesKept.{turned_by}
use Rattle.driver_step.specs.DriverSteps.{watched_by}
use Rattle.book_driver.proofs.WatcherLemmas.{keys_by, left_by, settles, watched_after}
use Rattle.book_driver.proofs.watcher.Watcher.ask.Goals as goal

pub names-requires : goal.names-requires
names-requires g c = record { stays = λ is. c.as_slice.ensures ∙ c.requires.stays is ∙ sym c.requires.told }

pub settle-requires : goal.settle-requires
settle-requires g c = record {
  awaits = λ none. subst (λ rows. NoneWanted rows c.args.reached.keys) (sym c.in_ok-leave.ensures.cache) (c.requires.awaits none);
  stays = λ is. c.requires.stays is ∙ sym c.in_ok-leave.ensures.left.keys_are;
}

pub returns-clause-sent : goal.returns-clause-sent
returns-clause-sent g c s past before a by same =
    c.in_ok-sent.ensures.sent s before past (watched_by s before past (pages s past) a) (c.as_slice.ensures ∙ keys_by s before past a c.args.reached.keys same) by.streams_are

pub returns-clause-kept : goal.returns-clause-kept
returns-clause-kept g c s past line event reply a by serving assembled_is same timely told =
    let keys = c.as_slice.ensures ∙ keys_by s (came event reply) past a c.args.reached.keys same in
    let asked = c.in_ok-sent.ensures.sent s (came event reply) past (watched_by s (came event reply) past (pages s past) a) keys by.streams_are in
    watched_after s past line event reply c.args.now a c.args.reached.keys c.args.self.now
    (record { alloc = c.args.self.now.alloc; boot = c.args.self.now.boot; deps = c.args.self.now.deps; streams = c.names.new.self; fates = c.settle.new.self })
    by serving assembled_is same refl refl (c.in_ok-settle.ensures.cache ∙ c.in_ok-leave.ensures.cache)
    (c.in_ok-sent.ensures.after s 0 line event reply past (watched_by s (came event reply) past (pages s past) a) keys by.streams_are (told ∙ asked))
    (c.in_ok-sent.ensures.told ∙ c.as_slice.ensures)
    (settles s past line event reply c.args.now a c.args.reached.keys c.in_ok-sent.sent c.args.self.now c.settle.new.self by assembled_is same timely told asked
    (λ page watched now_is turns asks.
    c.in_ok-settle.ensures.kept s (came event reply) past (pages s past) page (turned_by event reply.verdict) by.marks by.marked
    (left_by by.marks c.args.self.now.fates c.leave.new.self c.args.reached.keys by.timers_are by.before_are by.untimed_are c.in_ok-leave.ensures.left)
    (subst (λ rows. IsWatching by.marks.cache rows c.args.reached.keys) (sym c.in_ok-leave.ensures.cache) by.watching) watched now_is turns
    (subst (λ xs. AreAskedBy xs c.args.reached.keys past page) (sym c.as_slice-2.ensures) asks)))
