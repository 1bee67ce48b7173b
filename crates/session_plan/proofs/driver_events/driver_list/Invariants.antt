use Rattle.std.proofs.Common.{◌≡◌, ◌++◌, map, drop}
use Rattle.session_script.specs.Plan.{Streams, driver_list}
use Rattle.session_plan.specs.ComingFrames.{AreWaiting}
use Rattle.session_plan.specs.PlanOfSession.{driver_plan, plan_item}
use Rattle.session_plan.specs.ReadablePayloads.{is_response}
use Rattle.session_plan.proofs.driver_events.driver_list.Given as goal

abbrev pub invariant-loop-line : goal.invariant-loop-line
invariant-loop-line l =
    (s : Streams) × (AreWaiting s l.waiting × (l.list ++ map plan_item (driver_list is_response s (drop l.line-index l.lines)) ≡ driver_plan is_response l.lines))
