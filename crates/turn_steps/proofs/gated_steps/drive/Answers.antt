use Rattle.std.proofs.Common.{length, sym, subst}
use Rattle.call_journal.specs.declared.event.DriverEvent.{DriverEvent}
use Rattle.book_progress.specs.ProgressKept.{most_entries}
use Rattle.channel_calls.proofs.GatedSteps.{drivable}
use Rattle.channel_calls.specs.xds_book.BookEntries.{IsKnownTo}
use Rattle.turn_steps.proofs.gated_steps.drive.Goals as goal

pub apply-requires-clause-known : goal.apply-requires-clause-known
apply-requires-clause-known g c κs within =
    subst (λ (e : DriverEvent). IsKnownTo (length g.J.Job.boot.authorities) e) (sym c.into_parts-event.ensures.event)
    (drivable g.J.Job.plan (length g.J.Job.boot.authorities) most_entries c.args.lane.now 0 c.args.at.line c.args.at.after c.args.coming.event c.requires.fits c.requires.next).0
