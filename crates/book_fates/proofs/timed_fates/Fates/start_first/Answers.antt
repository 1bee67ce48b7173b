use Rattle.std.proofs.Common.{ap, ◌∙◌, subst}
use Rattle.std.specs.Prelude.{filter}
use Rattle.book_fates.specs.Timing.{StartedBy, asked_among, is_idle}
use Rattle.book_fates.proofs.TimedLemmas.{first_starts, idle_left}
use Rattle.book_fates.proofs.timed_fates.Fates.start_first.Goals as goal

pub returns-clause-started : goal.returns-clause-started
returns-clause-started g c =
    first_starts c.args.self.now.timers c.start_asked.new.timers c.args.keys.now c.in_ok-wanted.wanted c.args.sent.now c.args.self.now.cache c.args.now c.in_ok-wanted.ensures.wanted
    (subst (λ keys. StartedBy c.args.self.now.timers c.start_asked.new.timers (asked_among keys c.args.sent.now) c.args.now) c.as_slice.ensures c.in_ok-start_asked.ensures)

pub returns-clause-timed : goal.returns-clause-timed
returns-clause-timed g c =
    idle_left c.start_asked.new.timers c.args.keys.now c.in_ok-wanted.wanted c.in_ok-idle.idle c.args.self.now.cache c.in_ok-wanted.ensures.wanted
    (c.in_ok-idle.ensures ∙ ap (filter (is_idle c.start_asked.new.timers)) c.as_slice-2.ensures)
