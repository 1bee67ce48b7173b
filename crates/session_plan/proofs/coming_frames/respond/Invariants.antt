use Rattle.std.proofs.Common.{◌≡◌, ◌++◌, map}
use Rattle.std.specs.List.{list_all}
use Rattle.call_journal.specs.declared.event.DriverEvent.{DriverEvent}
use Rattle.session_script.specs.Plan.{played_of}
use Rattle.session_plan.specs.ReadablePayloads.{is_response}
use Rattle.session_plan.proofs.coming_frames.respond.Given as goal

abbrev pub invariant-loop-payload : goal.invariant-loop-payload
invariant-loop-payload l = record {
  all : l.all ≡ list_all is_response l.yielded;
  events : l.out ≡ l.fn.out ++ map (DriverEvent.Response l.authority) (played_of is_response l.yielded);
}
