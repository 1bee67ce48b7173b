use Rattle.std.proofs.Common.{length, Some, refl, ap}
use Rattle.call_journal.specs.declared.event.CallerEvent.{CallerEvent}
use Rattle.call_journal.specs.declared.plan.ListedEvent.{ListedEvent}
use Rattle.book_progress.specs.PlayedPlans as played
use Rattle.lane_checks.specs.xds_book.declared.book_faults.BookFault.{BookFault}
use Rattle.planned_calls.specs.xds_history.Setting.{setting_of}
use Rattle.channel_calls.proofs.GatedSteps.{book_is, memory_left, pin_is_up, step_at, still_open}
use Rattle.channel_calls.proofs.locked_book.Locked.hold.Goals as goal

pub hold-requires-clause-up : goal.hold-requires-clause-up
hold-requires-clause-up g c =
    let same = book_is c.self.inside.book c.self.inside.waits c.admit.new.self c.args.self.now c.self.view_is c.in_ok-admit.ensures.same in
    pin_is_up (setting_of g.J.Job.boot g.J.Job.target) g.J.Job.plan (length g.J.Job.boot.authorities) c.args.lane.now c.args.at.line c.args.token.call c.self.inside.book c.self.invariant.plan_is
    (still_open g.J.Job.plan c.args.lane.now c.args.self.now c.self.inside.book c.in_ok-admit.ensures.opens same)
    (step_at g.J.Job.plan c.args.lane.now 1 c.args.at.line c.args.at.after (ListedEvent.Start c.args.token.call) (played.caller (CallerEvent.Hold c.args.token.call)) c.args.self.now c.self.inside.book c.requires.up (refl, refl)
    c.requires.free c.in_ok-admit.ensures.goes_on c.in_ok-admit.ensures.opens same)

pub memory_of-requires : goal.memory_of-requires
memory_of-requires g c =
    memory_left g.J.Job.plan (length g.J.Job.boot.authorities) c.args.lane.now 1 c.args.at.line c.args.at.after (ListedEvent.Start c.args.token.call) (played.caller (CallerEvent.Hold c.args.token.call)) c.args.self.now c.self.inside.book c.in-Err.fault
    c.self.invariant.plan_is c.requires.up (refl, refl) c.requires.free c.in_ok-admit.ensures.goes_on c.in_ok-admit.ensures.opens (book_is c.self.inside.book c.self.inside.waits c.admit.new.self c.args.self.now c.self.view_is c.in_ok-admit.ensures.same)
    (λ is. c.in-Err.ensures.ended.0 (ap (λ (f : BookFault). Some f) is)) (λ is. c.in-Err.ensures.full.0 (ap (λ (f : BookFault). Some f) is))
