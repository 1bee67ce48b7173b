use Rattle.std.proofs.Common.{length, Err, refl, ap}
use Rattle.call_journal.specs.declared.plan.ListedEvent.{ListedEvent}
use Rattle.book_progress.specs.PlayedPlans as played
use Rattle.book_progress.specs.ProgressKept.{most_entries}
use Rattle.lane_checks.specs.xds_book.declared.book_faults.BookFault.{BookFault}
use Rattle.channel_calls.proofs.LaneSteps.{driven_lane}
use Rattle.channel_calls.proofs.GatedSteps.{book_is, drivable, memory_left}
use Rattle.channel_calls.proofs.locked_book.Locked.drive.Goals as goal

pub apply-requires-clause-known : goal.apply-requires-clause-known
apply-requires-clause-known g c κs within =
    (drivable g.J.Job.plan (length g.J.Job.boot.authorities) most_entries c.args.lane.now 0 c.args.at.line c.args.at.after c.args.event c.self.invariant.plan_is c.requires.next).0

pub memory_of-requires : goal.memory_of-requires
memory_of-requires g c =
    memory_left g.J.Job.plan (length g.J.Job.boot.authorities) c.args.lane.now 0 c.args.at.line c.args.at.after (ListedEvent.Driver c.args.event) (played.driver c.args.event) c.args.self.now c.self.inside.book c.in-Err.fault
    c.self.invariant.plan_is c.requires.next (refl, refl) c.requires.free c.in_ok-admit.ensures.goes_on c.in_ok-admit.ensures.opens (book_is c.self.inside.book c.self.inside.waits c.admit.new.self c.args.self.now c.self.view_is c.in_ok-admit.ensures.same)
    (λ is. c.in-Err.ensures.ended.0 (ap (λ (f : BookFault). Err f) is)) (λ is. c.in-Err.ensures.full.0 (ap (λ (f : BookFault). Err f) is))

pub returns-in-Ok-clause-lane : goal.returns-in-Ok-clause-lane
returns-in-Ok-clause-lane g c = driven_lane c.args.at.line c.args.event c.args.prepared c.self.inside.book c.apply.new.self c.args.lane.now c.apply.new.lane c.in-Ok.ensures.entry
