use Rattle.std.proofs.Common.{◌≤◌, ◌+◌, length, None, ap, ◌∙◌, subst}
use Rattle.std.specs.Prelude.{if◌then◌else◌}
use Rattle.book_fates.specs.Timing.{AreTimedBut, StartedBy, first_among}
use Rattle.book_fates.proofs.TimedLemmas.{known_cost, known_if, known_starts, known_timed}
use Rattle.book_fates.proofs.timed_fates.Fates.start.Goals as goal

pub returns-then-is_empty-clause-timed : goal.returns-then-is_empty-clause-timed
returns-then-is_empty-clause-timed g c stays =
    known_if c.args.next.now.stays c.args.self.now.untimed c.keys_if-left.result (λ keys. AreTimedBut keys c.args.next.now.keys c.args.self.now.cache c.args.self.now.timers)
    (c.keys_if-left.ensures ∙ ap (λ o. if c.args.next.now.stays then o else None) c.take.ensures.value) stays

pub returns-clause-started : goal.returns-clause-started
returns-clause-started g c stays =
    let is = c.keys_if-left.ensures ∙ ap (λ o. if c.args.next.now.stays then o else None) c.take.ensures.value in
    known_starts c.args.self.now.timers c.start_first.new.self.timers c.keys_if-left.result c.args.next.now.keys c.args.sent.now c.args.self.now.cache c.args.now
    (known_if c.args.next.now.stays c.args.self.now.untimed c.keys_if-left.result (λ keys. AreTimedBut keys c.args.next.now.keys c.args.self.now.cache c.args.self.now.timers) is stays)
    (subst (λ keys. StartedBy c.args.self.now.timers c.start_first.new.self.timers (first_among keys c.args.sent.now c.args.self.now.cache) c.args.now) c.keys_or.ensures c.in_ok-untimed.ensures.started)

pub returns-clause-timed : goal.returns-clause-timed
returns-clause-timed g c stays =
    let is = c.keys_if-left.ensures ∙ ap (λ o. if c.args.next.now.stays then o else None) c.take.ensures.value in
    known_timed c.args.self.now.timers c.start_first.new.self.timers c.in_ok-untimed.untimed c.keys_if-left.result c.args.next.now.keys c.args.sent.now c.args.self.now.cache c.args.now
    (known_if c.args.next.now.stays c.args.self.now.untimed c.keys_if-left.result (λ keys. AreTimedBut keys c.args.next.now.keys c.args.self.now.cache c.args.self.now.timers) is stays)
    (subst (λ keys. StartedBy c.args.self.now.timers c.start_first.new.self.timers (first_among keys c.args.sent.now c.args.self.now.cache) c.args.now) c.keys_or.ensures c.in_ok-untimed.ensures.started)
    (subst (λ keys. AreTimedBut c.in_ok-untimed.untimed keys c.args.self.now.cache c.start_first.new.self.timers) c.keys_or.ensures c.in_ok-untimed.ensures.timed)

pub returns-clause-few : goal.returns-clause-few
returns-clause-few g c =
    known_cost c.args.next.now.stays c.args.self.now.untimed c.keys_if-left.result c.args.next.now.keys c.args.steps.now c.start_first.new.steps
    (c.keys_if-left.ensures ∙ ap (λ o. if c.args.next.now.stays then o else None) c.take.ensures.value)
    (subst (λ keys. c.start_first.new.steps ≤ c.args.steps.now + length keys) c.keys_or.ensures c.start_first.ensures.cost)
