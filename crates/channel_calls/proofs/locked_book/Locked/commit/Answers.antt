use Rattle.std.proofs.Common.{length, Err, refl, ap}
use Rattle.call_journal.specs.declared.event.CallerEvent.{CallerEvent}
use Rattle.call_journal.specs.declared.plan.ListedEvent.{ListedEvent}
use Rattle.book_progress.specs.PlayedPlans as played
use Rattle.lane_checks.specs.xds_book.declared.book_faults.BookFault.{BookFault}
use Rattle.channel_calls.proofs.GatedSteps.{book_is, memory_left}
use Rattle.channel_calls.proofs.locked_book.Locked.commit.Goals as goal

pub memory_of-requires : goal.memory_of-requires
memory_of-requires g c =
    memory_left g.J.Job.plan (length g.J.Job.boot.authorities) c.args.lane.now 0 c.args.at.line c.args.at.after (ListedEvent.Commit c.args.call) (played.caller (CallerEvent.Commit c.args.call)) c.args.self.now c.self.inside.book c.in-Err.fault
    c.self.invariant.plan_is c.requires.next (refl, refl) c.requires.free c.in_ok-admit.ensures.goes_on c.in_ok-admit.ensures.opens (book_is c.self.inside.book c.self.inside.waits c.admit.new.self c.args.self.now c.self.view_is c.in_ok-admit.ensures.same)
    (λ is. c.in-Err.ensures.ended.0 (ap (λ (f : BookFault). Err f) is)) (λ is. c.in-Err.ensures.full.0 (ap (λ (f : BookFault). Err f) is))
