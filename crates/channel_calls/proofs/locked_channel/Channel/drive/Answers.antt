use Rattle.std.proofs.Common.{length}
use Rattle.book_progress.specs.ProgressKept.{most_entries}
use Rattle.channel_calls.proofs.GatedSteps.{drivable}
use Rattle.channel_calls.proofs.locked_channel.Channel.drive.Goals as goal

pub prepared_event-requires : goal.prepared_event-requires
prepared_event-requires g c = (drivable g.J.Job.plan (length g.J.Job.boot.authorities) most_entries c.args.lane.now 0 c.args.line c.args.after c.args.event c.self.invariant c.requires.next).1

pub returns-in_default-clause-cause : goal.returns-in_default-clause-cause
returns-in_default-clause-cause g c = c.run_out.ensures c.args.lane.now.count
