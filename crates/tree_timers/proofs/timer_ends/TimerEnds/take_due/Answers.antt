use Rattle.std.proofs.Common.{inl, sym, subst}
use Rattle.tree_timers.specs.EndsKept.{Ends, HasEnd}
use Rattle.tree_timers.proofs.EndLemmas.{all_taken, each_left_or_taken, later_left, more_places}
use Rattle.tree_timers.proofs.timer_ends.TimerEnds.take_due.Goals as goal

pub loop-end-init : goal.loop-end-init
loop-end-init c = (λ end has. inl (subst (λ (ends : Ends). HasEnd ends end) (sym c.self.view_is) has), λ place there. there)

pub loop-end-preserved : goal.loop-end-preserved
loop-end-preserved c = (
  each_left_or_taken c.args.self.now c.loop-end.self-inside.ends c.remove.new.self c.loop-end.places c.insert.new.self c.args.now c.in-Some.end c.in-Some.ensures.due c.in_ok-insert.ensures.updates.1
      c.remove.ensures.updates.0 (more_places c.loop-end.places c.loop-end.places c.insert.new.self c.in-Some.end.place c.in_ok-insert.ensures.updates.0 (λ place there. there)) c.loop-end.invariant.0,
  more_places c.args.places.now c.loop-end.places c.insert.new.self c.in-Some.end.place c.in_ok-insert.ensures.updates.0 c.loop-end.invariant.1,
)

pub returns-clause-added : goal.returns-clause-added
returns-clause-added c = all_taken c.args.self.now c.loop-end.self-inside.ends c.loop-end.places c.args.now c.loop-end.invariant.0 c.in_default.ensures.none

pub returns-clause-kept : goal.returns-clause-kept
returns-clause-kept c = later_left c.args.self.now c.loop-end.self-inside.ends c.loop-end.places c.args.now c.loop-end.invariant.0

pub returns-in_err-insert-clause-kept : goal.returns-in_err-insert-clause-kept
returns-in_err-insert-clause-kept c = later_left c.args.self.now c.loop-end.self-inside.ends c.loop-end.places c.args.now c.loop-end.invariant.0
