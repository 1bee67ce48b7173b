use Rattle.std.proofs.Common.{length, Err, refl, ap}
use Rattle.call_journal.specs.declared.event.CallerEvent.{CallerEvent}
use Rattle.call_journal.specs.declared.plan.ListedEvent.{ListedEvent}
use Rattle.book_progress.specs.PlayedPlans as played
use Rattle.lane_checks.specs.xds_book.declared.book_faults.BookFault.{BookFault}
use Rattle.planned_calls.specs.xds_history.Setting.{setting_of}
use Rattle.channel_calls.proofs.LaneSteps.{pinned_lane}
use Rattle.channel_calls.proofs.GatedSteps.{book_is, memory_left, new_call, step_at, still_open}
use Rattle.channel_calls.proofs.locked_book.Locked.pin.Goals as goal

pub pin-requires-clause-free : goal.pin-requires-clause-free
pin-requires-clause-free g c =
    let same = book_is c.self.inside.book c.self.inside.waits c.admit.new.self c.args.self.now c.self.view_is c.in_ok-admit.ensures.same in
    (new_call (setting_of g.J.Job.boot g.J.Job.target) g.J.Job.plan (length g.J.Job.boot.authorities) c.args.lane.now c.args.at.line c.args.call c.self.inside.book c.self.invariant.plan_is
    (still_open g.J.Job.plan c.args.lane.now c.args.self.now c.self.inside.book c.in_ok-admit.ensures.opens same)
    (step_at g.J.Job.plan c.args.lane.now 0 c.args.at.line c.args.at.after (ListedEvent.Start c.args.call) (played.caller (CallerEvent.Pin c.args.call)) c.args.self.now c.self.inside.book c.requires.next (refl, refl)
    c.requires.free c.in_ok-admit.ensures.goes_on c.in_ok-admit.ensures.opens same)).free

pub pin-requires-clause-idle : goal.pin-requires-clause-idle
pin-requires-clause-idle g c =
    let same = book_is c.self.inside.book c.self.inside.waits c.admit.new.self c.args.self.now c.self.view_is c.in_ok-admit.ensures.same in
    (new_call (setting_of g.J.Job.boot g.J.Job.target) g.J.Job.plan (length g.J.Job.boot.authorities) c.args.lane.now c.args.at.line c.args.call c.self.inside.book c.self.invariant.plan_is
    (still_open g.J.Job.plan c.args.lane.now c.args.self.now c.self.inside.book c.in_ok-admit.ensures.opens same)
    (step_at g.J.Job.plan c.args.lane.now 0 c.args.at.line c.args.at.after (ListedEvent.Start c.args.call) (played.caller (CallerEvent.Pin c.args.call)) c.args.self.now c.self.inside.book c.requires.next (refl, refl)
    c.requires.free c.in_ok-admit.ensures.goes_on c.in_ok-admit.ensures.opens same)).idle

pub memory_of-requires : goal.memory_of-requires
memory_of-requires g c =
    memory_left g.J.Job.plan (length g.J.Job.boot.authorities) c.args.lane.now 0 c.args.at.line c.args.at.after (ListedEvent.Start c.args.call) (played.caller (CallerEvent.Pin c.args.call)) c.args.self.now c.self.inside.book c.in-Err.fault
    c.self.invariant.plan_is c.requires.next (refl, refl) c.requires.free c.in_ok-admit.ensures.goes_on c.in_ok-admit.ensures.opens (book_is c.self.inside.book c.self.inside.waits c.admit.new.self c.args.self.now c.self.view_is c.in_ok-admit.ensures.same)
    (λ is. c.in-Err.ensures.ended.0 (ap (λ (f : BookFault). Err f) is)) (λ is. c.in-Err.ensures.full.0 (ap (λ (f : BookFault). Err f) is))

pub returns-in-Ok-clause-lane : goal.returns-in-Ok-clause-lane
returns-in-Ok-clause-lane g c =
    pinned_lane c.args.lane.now c.pin.new.lane (setting_of g.J.Job.boot g.J.Job.target) c.self.inside.book c.pin.new.self c.args.call c.in-Ok.token c.in-Ok.ensures.entry.lane c.in-Ok.ensures.token
